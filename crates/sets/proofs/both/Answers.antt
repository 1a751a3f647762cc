-- `sets::both` meets its contract: word by word.
use Rattle.std.proofs.Common.{rules}
use Rattle.sets.specs.Whole.{words}
use Rattle.sets.proofs.Words.{all_words, both_wordwise}
use Rattle.sets.proofs.both.Goals as goal

pub returns : goal.returns
returns c =
    all_words both_wordwise _ _ _ words (search rules) (search rules) c.by_words.ensures.0 (λ i. search rules) (λ i. search rules) c.by_words.ensures.1
