-- `sets::without` meets its contract: word by word.
use Rattle.std.proofs.Common.{rules}
use Rattle.sets.specs.Whole.{words}
use Rattle.sets.proofs.Words.{all_words, less_wordwise}
use Rattle.sets.proofs.without.Goals as goal

pub returns : goal.returns
returns c =
    all_words less_wordwise _ _ _ words (search rules) (search rules) c.by_words.ensures.0 (λ i. search rules) (λ i. search rules) c.by_words.ensures.1
