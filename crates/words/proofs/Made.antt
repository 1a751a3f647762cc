-- The tables that are filled from a graph by value are those of the graph that it holds.
-- Assumes nothing.
use mathlib.Core.Bool.{Bool, true, ◌&&◌}
use mathlib.Core.List.{List, [], ◌∷◌}
use mathlib.Core.Logic.{◌↔◌}
use mathlib.Core.Path.{◌≡◌, refl, sym, ap₂, ◌∙◌}
use Prim.Native.Nat.{ℕ, zero, suc}
use native.Mathlib.Omega.{arith}
use lib.ListN.{length, get_or}
use borrow.Author.Tests.{lt-ltb}
use denote.Floats.{is_true, passes}
use Rattle.graph.proofs.Value.{labels_length}
use Rattle.graph.specs.declared.Graph.{Graph}
use Rattle.graph.specs.declared.Label.TheVariants.{Fence}
use Rattle.graph.specs.declared.Node.{Node}
use Rattle.graph.specs.Tests.{ruledb}
use Rattle.graph.specs.Graph.{Sound, label}
use Rattle.graph.specs.Held.{Step}
use Rattle.graph.specs.Value.{labels, graph_of, rules_of}
use Rattle.graph.proofs.Ruled.{says_ruled}
use Rattle.words.specs.Words.{Ruling, WordsOf, listed, Led, label_at, Fitted}

-- past the nodes both read as a fence
label_same : (ns : List Node) (p : ℕ) → get_or (labels ns) p Fence ≡ label_at ns p
label_same [] p = refl
label_same (x ∷ ns) zero = refl
label_same (x ∷ ns) (suc p) = label_same ns p

pub ruling : (g : Graph) (fits : List ℕ) → Fitted g fits → Ruling (graph_of g) (rules_of g) fits
ruling g fits fit p q h k =
    let says = says_ruled (rules_of g) (label (graph_of g) p) (label (graph_of g) q) in
    let test : listed fits p q ≡ ruledb (rules_of g) (label (graph_of g) p) (label (graph_of g) q) =
    fit p q
    ∙ ap₂ (λ (x y : Bool). x && (y && ruledb (rules_of g) (label_at g.nodes.items p) (label_at g.nodes.items q)))
    (lt-ltb p (length g.nodes.items) (omega (arith, h, labels_length g.nodes.items)))
    (lt-ltb q (length g.nodes.items) (omega (arith, k, labels_length g.nodes.items)))
    ∙ ap₂ (ruledb (rules_of g)) (sym (label_same g.nodes.items p)) (sym (label_same g.nodes.items q)) in
    (λ e. says.so (passes _ (sym test ∙ e)), λ r. test ∙ is_true _ (says.back r))

module _ (g : Graph) (sound : Sound (graph_of g)) where
  led_step : (p q : ℕ) → Led g.edges.items (length g.edges.items) p q → Step (graph_of g) [] p q
  led_step p q (j, h, k, f, t) = (j, h, tt, f, t)

  step_led : (p q : ℕ) → Step (graph_of g) [] p q → Led g.edges.items (length g.edges.items) p q
  step_led p q (j, h, o, f, t) = (j, h, h, f, t)

  pub words_made : (succ fits : List ℕ)
      → ((p q : ℕ) → (listed succ p q ≡ true) ↔ Led g.edges.items (length g.edges.items) p q)
      → Fitted g fits
      → WordsOf (graph_of g) (rules_of g) [] succ fits
  words_made succ fits led fit = record {
    sound = sound;
    steps = λ p q. (λ e. led_step p q ((led p q).0 e), λ s. (led p q).1 (step_led p q s));
    ruled = ruling g fits fit;
  }
