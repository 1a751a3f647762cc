-- Any sequence of runs over graphs, each on what the last one wrote: the lemmas under demand 3.
-- Assumes nothing.
use mathlib.Core.List.Memᴰ
use mathlib.Core.List.{List, [], ◌∷◌, ◌++◌, Memᴰ}
use mathlib.Core.Logic.{inl, inr}
use mathlib.Core.Path.{◌≡◌}
use Prim.Native.Nat.{ℕ, ◌+◌, ◌≤◌}
use native.Mathlib.Omega.{arith}
use lib.ListN.{length}
use Rattle.graph.specs.declared.Order.{Order}
use Rattle.graph.specs.declared.Rule.{Rule}
use Rattle.graph.specs.Cut.{ChosenCut, weight}
use Rattle.graph.specs.Graph.{Graph, Sound}
use Rattle.graph.specs.Held.{Held, Within}
use Rattle.graph.specs.Strip.{AllName, Stripped, done, Names}
use Rattle.graph.specs.Written.{fenced, written, FenceRules}
use Rattle.graph.proofs.Strip.{node_count, sound_fenced, stripped_written, stripped_trans}
use Rattle.graph.proofs.Written.{fencing_so, held_written, held_without, asked_held, later_within, rising_within}

pub written_nodes : (g : Graph) (c : List ℕ) → Within (length g.edges) c → length (written g c).nodes ≡ length g.nodes + length c
written_nodes g [] w = omega arith
written_nodes g (e ∷ c) w =
    omega (arith, node_count g e w.0, written_nodes (fenced g e) c (later_within g e c w))

pub written_sound : (g : Graph) (c : List ℕ) → Within (length g.edges) c → Sound g → Sound (written g c)
written_sound g [] w s = s
written_sound g (e ∷ c) w s =
    written_sound (fenced g e) c (later_within g e c w) (sound_fenced g e w.0 s)

-- nothing open: the cut is empty
pub empty_chosen : {g : Graph} {rules : List Rule} {orders : List Order} → ((o : Order) → Memᴰ o orders → Held g rules o) → ChosenCut g rules orders []
empty_chosen held = record { among = record { rising = tt; separates = held }; least = λ d k. omega arith; first = λ d k e. tt }

-- the runs from one graph to another, with all orders asked, the fences put in and what they weigh; each order names one of the first n nodes
pub data Rounds (n : ℕ) (rules : List Rule) : Graph → List Order → ℕ → ℕ → Graph → Type 0 where
  ended : {g : Graph} → Rounds n rules g [] 0 0 g
  round : {g h : Graph} {orders asked : List Order} {fences weighed : ℕ} (c : List ℕ) → ChosenCut g rules orders c → AllName n orders
      → Rounds n rules (written g c) asked fences weighed h → Rounds n rules g (orders ++ asked) (fences + length c) (weighed + weight g c) h

module _ {n : ℕ} {rules : List Rule} where
  pub rounds_nodes : {g h : Graph} {asked : List Order} {f w : ℕ} → Rounds n rules g asked f w h → length h.nodes ≡ length g.nodes + f
  rounds_nodes ended = omega arith
  rounds_nodes {g} (round c chosen names later) =
      omega (arith, rounds_nodes later, written_nodes g c (rising_within 0 (length g.edges) c chosen.among.rising))

  -- stripping gives the first graph back
  pub rounds_stripped : {g h : Graph} {asked : List Order} {f w : ℕ} → Sound g → Rounds n rules g asked f w h → Stripped h w g
  rounds_stripped sound ended = done
  rounds_stripped {g} sound (round c chosen names later) =
      let w = rising_within 0 (length g.edges) c chosen.among.rising in
      stripped_trans (rounds_stripped (written_sound g c w sound) later) (stripped_written g c sound w)

  module _ (has : FenceRules rules) where
    -- what is held stays held
    rounds_keep : {g h : Graph} {asked : List Order} {f w : ℕ} → Rounds n rules g asked f w h → (o : Order) → Names (length g.nodes) o → Held g rules o
        → Held h rules o
    rounds_keep ended o m held = held
    rounds_keep {g} (round c chosen names later) o m held =
        let w = rising_within 0 (length g.edges) c chosen.among.rising in
        let kept = held_written (fencing_so has) g c w o.first o.second m.0 m.1 (held_without g c o.first o.second held) in
        rounds_keep later o (omega (arith, written_nodes g c w)) kept

    -- each order asked in any of the runs is held at the end
    pub asked_kept : {g h : Graph} {asked : List Order} {f w : ℕ} → n ≤ length g.nodes → Rounds n rules g asked f w h → (o : Order) → Memᴰ o asked
        → Held h rules o
    asked_kept few ended o m = absurd (Memᴰ.not-nil m)
    asked_kept {g} few (round {orders = orders} c chosen names later) o m =
        let nodes = written_nodes g c (rising_within 0 (length g.edges) c chosen.among.rising) in elim (Memᴰ.append_cases orders m) [
          | inl a ↦ let k = names o a in rounds_keep later o (omega (arith, nodes, k))
              (asked_held has g orders c chosen.among.rising chosen.among.separates o a (omega (arith, k)) (omega (arith, k)))
          | inr a ↦ asked_kept (omega (arith, nodes)) later o a
        ]
