-- The steps of the search for the lightest cut. P is what a cut must satisfy.
-- Assumes nothing.
use mathlib.Core.Bool.{Bool, true, false}
use mathlib.Core.List.{List}
use mathlib.Core.Path.{◌≡◌, subst}
use Prim.Native.Nat.{ℕ, ◌+◌, ◌-◌, ◌<◌, ◌≤◌}
use native.Mathlib.Omega.{arith}
use lib.ListN.{length, get_or, set}
use borrow.Author.Count.{below_more}
use Rattle.flags.specs.Flag.{flag}
use Rattle.lightest.specs.Made.{Cut, Made}
use Rattle.lightest.specs.Search.{Branch, Addable, Packed, Capped, Picked}
use Rattle.lightest.specs.Sets.{Has, PartOf, weigh}
use Rattle.graph.specs.Limits.{most_edges}
use Rattle.graph.proofs.Splits.{true_false}
use Rattle.lightest.proofs.Grown.{grown_part, grown_heavy, part-more}

-- after the edges of es below i: the best so far, and what has one of them is no lighter
pub record Tried (ws : List ℕ) (P : List Bool → Type 0) (s : Cut) (limit es : ℕ) (best : Cut) (i : ℕ) : Type 0 where
  pub capped : Capped ws P s limit best
  pub seen : (t : List Bool) → Branch ws P s.chosen t → (k : ℕ) → k < i → flag es k ≡ true → Has t k → best.weight ≤ weigh ws t

-- what the search found from s with edge e, below the limit: c
pub record Deeper (ws : List ℕ) (P : List Bool → Type 0) (s : Cut) (e limit : ℕ) (c : Cut) : Type 0 where
  pub edge : Addable ws s.chosen e
  pub cut : Cut
  pub more : cut.chosen ≡ set s.chosen e true
  pub light : cut.weight < limit
  pub picked : Picked ws P cut (cut.weight + (limit - cut.weight)) c

module _ {ws : List ℕ} {P : List Bool → Type 0} {s : Cut} {limit : ℕ} where
  pub deeper_low : {e : ℕ} {c : Cut} → Deeper ws P s e limit c → c.weight ≤ limit
  deeper_low d = omega (arith, d.light, d.picked.capped.low)

  -- nothing lighter than the limit is found, whatever the edges are said to be
  pub capped_none : {c : Cut} → c.weight ≡ limit → Capped ws P s limit c
  capped_none e = record { low = omega arith; some = λ h. absurd (omega arith) }

  -- it is as light as the bound allows
  pub pick_tight : {c : Cut} (left : List ℕ) (sum : ℕ) → Capped ws P s limit c → Packed ws P s left sum → c.weight ≤ s.weight + sum → Picked ws P s limit c
  pick_tight left sum w p h = record { capped = w; least = λ t b. omega (arith, p t b) }

  module _ {es : ℕ} {best : Cut} {e : ℕ} (so : Tried ws P s limit es best e) where
    -- an edge more, and the best is c
    tried_on : {c : Cut} → Capped ws P s limit c → c.weight ≤ best.weight
        → ((t : List Bool) → Branch ws P s.chosen t → flag es e ≡ true → Has t e → c.weight ≤ weigh ws t)
        → Tried ws P s limit es c (e + 1)
    tried_on {c = c} w l over = record {
      capped = w;
      seen = λ t b. below_more (λ k. flag es k ≡ true → Has t k → c.weight ≤ weigh ws t) e (λ k h q z. omega (arith, l, so.seen t b k h q z)) (over t b);
    }

    -- the edge is none of them
    pub tried_skip : flag es e ≡ false → Tried ws P s limit es best (e + 1)
    tried_skip h = tried_on so.capped (omega arith) (λ t b q. absurd (true_false q h))

    module _ (few : length ws ≤ most_edges) (ms : Made ws s) where
      -- the edge weighs more than what remains
      pub tried_heavy : Addable ws s.chosen e → best.weight ≤ s.weight + get_or ws e 0 → Tried ws P s limit es best (e + 1)
      tried_heavy adds h = tried_on so.capped (omega arith) (λ t b q z. omega (arith, h, grown_heavy ws few s ms e adds t b.edges b.has z))

      -- a level deeper, c is lighter than the best or as heavy
      module _ {c : Cut} (d : Deeper ws P s e best.weight c) where
        over : (t : List Bool) → Branch ws P s.chosen t → flag es e ≡ true → Has t e → c.weight ≤ weigh ws t
        over t b y z =
            let has = grown_part ws few s ms e d.edge d.cut d.more t b.has z in
            d.picked.least t (record { edges = b.edges; good = b.good; has = has })

        pub tried_same : best.weight ≤ c.weight → Tried ws P s limit es best (e + 1)
        tried_same h = tried_on so.capped (omega arith) (λ t b y z. omega (arith, over t b y z))

        pub tried_hit : c.weight < best.weight → Tried ws P s limit es c (e + 1)
        tried_hit h = tried_on (record {
          low = omega (arith, so.capped.low);
          some = λ v. (y.0, record { edges = y.1.edges; good = y.1.good; has = has });
        }) (omega arith) over
          where
            y : Made ws c × Branch ws P d.cut.chosen c.chosen
            y = d.picked.capped.some (omega (arith, d.light))

            has : PartOf s.chosen c.chosen
            has = part-more s.chosen c.chosen e (omega (arith, few, d.edge.0, ms.edges.long))
                (subst (λ (z : List Bool). PartOf z c.chosen) d.more y.1.has)
