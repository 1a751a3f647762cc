-- Strip over a graph by value: one law for each way out.
-- Assumes nothing.
use mathlib.Core.List.{List}
use mathlib.Core.Path.{◌∙◌, ◌≡◌, ap, refl, sym}
use Prim.Native.Nat.{◌-◌, ◌<◌, ◌≤◌, ℕ}
use native.Mathlib.Omega.{arith}
use lib.ListN.{length}
use Rattle.request.specs.declared.Answer.{Answer}
use Rattle.request.specs.declared.Answer.TheVariants.{NotLoose, ShortBuffer}
use Rattle.outcome.specs.Outcome.{StripOutcome, over, refusal, with_graph}
use Rattle.fencing.specs.Kept.{Kept}
use Rattle.fencing.specs.Left.{Off}
use Rattle.graph.specs.Graph.{Graph}
use Rattle.fencing.proofs.Going.{no_way}
use Rattle.graph.specs.Strip.{AllName, StripTo}
use Rattle.graph.specs.Value.{graph_of, orders_of}
use Rattle.request.specs.File.{bytes}
use Rattle.writing.specs.Write.{Written, size_of}
use Rattle.outcome.proofs.Off.{strip_accepted, strip_short, strip_stuck}
use Rattle.outcome.proofs.Reading.{kept_request, written_over}
use Rattle.graph.proofs.Value.{node_total}
use Rattle.writing.proofs.Writing.{bytes-size}
use Rattle.graph.specs.declared.Graph as Value
use Rattle.request.specs.Value.{request_in}
use Rattle.request.specs.Proper.{Reads}

-- what is the case where strip refuses
abbrev pub Keeps : Value.Graph → ℕ → List ℕ → Answer → Type 0
Keeps g c o a = (s : List ℕ) → Reads s (request_in g) → StripOutcome s c o (refusal a 0) o

module _ (g : Value.Graph) (c : ℕ) where
  abbrev NoWay : Type 0
  NoWay = (total : ℕ) (h : Graph) → ¬ StripTo c (orders_of g) (graph_of g) total h

  stuck_as : NoWay → {o : List ℕ} → Keeps g c o NotLoose
  stuck_as fast {o} s reads = strip_stuck s (request_in g) c reads o fast

  pub more_asked : length g.nodes.items < c → {o : List ℕ} → Keeps g c o NotLoose
  more_asked l = stuck_as (λ t h x. let z : ⊥ = omega (arith, x.enough, node_total g) in z)

  pub named_above : (AllName c (orders_of g) → ⊥) → {o : List ℕ} → Keeps g c o NotLoose
  named_above f = stuck_as (λ t h x. f x.names)

  module _ (h : Value.Graph) {w : ℕ} (off : Off (graph_of g) c (length h.nodes.items) w (graph_of h)) where
    pub not_freed : c < length h.nodes.items → {o : List ℕ} → Keeps g c o NotLoose
    not_freed l = stuck_as (λ t k x. no_way c off.stripped (off.early l) (omega (arith, off.left)) t k x.stripped x.left)

    module _ (names : AllName c (orders_of g)) (there : c ≤ length g.nodes.items) (all : length h.nodes.items ≤ c) (kept : Kept g h) where
      way : StripTo c (orders_of g) (graph_of g) w (graph_of h)
      way =
          record {
            enough = omega (arith, node_total g);
            names = names;
            stripped = off.stripped;
            left = omega (arith, off.left, off.enough);
          }

      file : bytes (request_in h) ≡ bytes (with_graph (request_in g) (graph_of h))
      file = ap bytes (kept_request g h kept (graph_of h) refl)

      size : length (bytes (with_graph (request_in g) (graph_of h))) ≡ size_of h
      size = sym (ap length file) ∙ bytes-size h

      pub small_buffer : {o : List ℕ} → length o < size_of h → Keeps g c o ShortBuffer
      small_buffer {o} l s reads = strip_short s (request_in g) c reads o w (graph_of h) way (omega (arith, size))

      pub freed_written : {o o' : List ℕ} {n : ℕ} → Written o o' 0 n (bytes (request_in h)) → (s : List ℕ) → Reads s (request_in g)
          → StripOutcome s c o (record { answer = 0; place = 0; fences = length g.nodes.items - c; weight = w; length = n }) o'
      freed_written {o} {o'} {n} x s reads =
          let m : n ≡ length (bytes (with_graph (request_in g) (graph_of h))) = omega (arith, x.next, ap length file) in
          let k : length g.nodes.items - c ≡ length (graph_of g).nodes - c = ap (λ (y : ℕ). y - c) (sym (node_total g)) in
          strip_accepted s (request_in g) c reads o w (graph_of h) way (omega (arith, x.room)) _ o'
          (λ i. record { answer = 0; place = 0; fences = k i; weight = w; length = m i })
          (written_over x ∙ ap (over o) file)
