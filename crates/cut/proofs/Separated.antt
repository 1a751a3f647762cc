-- The bridge to the definitions: what meets the unordered routes of the pairs is what separates the asked orders.
-- Assumes nothing.
use mathlib.Core.Bool.{Bool}
use mathlib.Core.List.{List, Memᴰ}
use mathlib.Core.Path.{◌≡◌, sym, ap, ◌∙◌, subst⁻¹}
use Prim.Native.Nat.{ℕ, ◌<◌, ◌≤◌}
use native.Mathlib.Omega.{arith}
use lib.ListN.{length, get_or, get_or-map}
use Rattle.std.proofs.lemmas.List.{length-map}
use Rattle.std.proofs.lemmas.List as lists
use Rattle.std.specs.List.{All, Contains}
use Rattle.graph.specs.declared.Edge.{Edge}
use Rattle.graph.specs.declared.Order.{Order}
use Rattle.graph.specs.declared.Rule.{Rule}
use Rattle.lightest.specs.Apart.{Apart, firsts, seconds}
use Rattle.lightest.specs.Sets.{weigh, Edges, Least}
use Rattle.graph.specs.Cut.{Rising, Separates, ChosenCut, weight}
use Rattle.graph.specs.Graph.{Graph, Sound, edge, no_edge, order, no_order}
use Rattle.graph.specs.Held.{Step, Open}
use Rattle.graph.specs.Limits.{most_edges}
use Rattle.graph.specs.Value.{rising}
use Rattle.graph.proofs.Walked.{follows_up}
use Rattle.walk.proofs.First.{to_graph, to_words}
use Rattle.walked.specs.Unordered.{Out, Leads, Unordered}
use Rattle.words.specs.Words.{Ruling}
use Rattle.route.specs.Way.{starts, ends, weights}
use Rattle.cut.proofs.Flagged.{rising-rising, out_absent, absent_out, total_same, least_best}
use Rattle.graph.proofs.Ordered.{says_orders}
use Rattle.graph.proofs.Says.{stable}
use Rattle.graph.proofs.Written.{held_without}
use Rattle.graph.specs.Cut as cut

-- an order that is asked, and open
abbrev pub AskedOpen : Graph → List Rule → List Order → Order → Type 0
AskedOpen g rules orders o = Memᴰ o orders × Open g rules o

-- these are all of those
pub record Asks (g : Graph) (rules : List Rule) (orders pairs : List Order) : Type 0 where
  pub each : All (AskedOpen g rules orders) pairs
  pub all : (o : Order) → Memᴰ o orders → Open g rules o → Contains pairs o

module _ (g : Graph) where
  start : (e : ℕ) → get_or (starts g.edges) e 0 ≡ (edge g e).from
  start e = get_or-map (λ (x : Edge). x.from) g.edges e no_edge

  end : (e : ℕ) → get_or (ends g.edges) e 0 ≡ (edge g e).to
  end e = get_or-map (λ (x : Edge). x.to) g.edges e no_edge

  pub heft : (e : ℕ) → get_or (weights g.edges) e 0 ≡ (edge g e).weight
  heft e = get_or-map (λ (x : Edge). x.weight) g.edges e no_edge

  -- a set weighs what its list does
  pub weight_of : (c : List Bool) → weigh (weights g.edges) c ≡ weight g (rising 0 c)
  weight_of c = total_same (λ e. get_or (weights g.edges) e 0) (λ e. (edge g e).weight) (rising 0 c) heft

  module _ (t : List Bool) where
    -- a step on none of the edges in t is by an edge without them, and the other way round
    leads_of : (p q : ℕ) → Step g (rising 0 t) p q → Leads (starts g.edges) (ends g.edges) (Out t) p q
    leads_of p q (e, h, o, f, s) =
        (e, (omega (arith, length-map g.edges (λ (x : Edge). x.from)), absent_out 0 t e e (omega arith) o, start e ∙ f, end e ∙ s))

    step_of : (p q : ℕ) → Leads (starts g.edges) (ends g.edges) (Out t) p q → Step g (rising 0 t) p q
    step_of p q (e, (h, o, f, s)) =
        (e, omega (arith, length-map g.edges (λ (x : Edge). x.from)), out_absent 0 t e e (omega arith) o, sym (start e) ∙ f, sym (end e) ∙ s)

    module _ {rules : List Rule} {orders pairs : List Order} {fits : List ℕ} (sound : Sound g) (ruling : Ruling g rules fits)
        (asks : Asks g rules orders pairs) where
      separates : Apart (starts g.edges) (ends g.edges) fits (firsts pairs) (seconds pairs) t → Separates g rules orders (rising 0 t)
      separates p o m between r = stable (says_orders g rules o.first between o.second) λ n.
          let open' : Open g rules o = λ held. n (held_without g (rising 0 t) o.first o.second held between r) in
          let k = asks.all o m open' in
          let u : Unordered (starts g.edges) (ends g.edges) fits (Out t) o.first between o.second = record {
            follows = follows_up leads_of o.first between o.second r.follows;
            once = r.once;
            unordered = λ q. n (to_graph g rules fits sound ruling (rising 0 t) o.first between o.second r.follows q);
          } in
          let first = lists.get_or-map (λ (x : Order). x.first) pairs k.0 o 0 k.1 ∙ ap (λ (x : Order). x.first) k.2 in
          let second = lists.get_or-map (λ (x : Order). x.second) pairs k.0 o 0 k.1 ∙ ap (λ (x : Order). x.second) k.2 in
          p k.0 (omega (arith, k.1, length-map pairs (λ (x : Order). x.first))) between (rw (first, second) u)

      apart : Separates g rules orders (rising 0 t) → Apart (starts g.edges) (ends g.edges) fits (firsts pairs) (seconds pairs) t
      apart s k h between u =
          let o = order pairs k in
          let l : k < length pairs = omega (arith, length-map pairs (λ (x : Order). x.first)) in
          let v : Unordered (starts g.edges) (ends g.edges) fits (Out t) o.first between o.second =
          rw (lists.get_or-map (λ (x : Order). x.first) pairs k no_order 0 l, lists.get_or-map (λ (x : Order). x.second) pairs k no_order 0 l) at u in
          let f = follows_up step_of o.first between o.second v.follows in
          v.unordered (to_words g rules fits sound ruling (rising 0 t) o.first between o.second f
          (s o (asks.each k no_order l).0 between (record { follows = f; once = v.once })))

-- so the least by flags is the chosen cut
module _ (g : Graph) (rules : List Rule) (orders pairs : List Order) (fits : List ℕ) (sound : Sound g) (few : length g.edges ≤ most_edges)
    (asks : Asks g rules orders pairs) (ruling : Ruling g rules fits) where
  abbrev keeps : List Bool → Type 0
  keeps t = Apart (starts g.edges) (ends g.edges) fits (firsts pairs) (seconds pairs) t

  long : length (weights g.edges) ≡ length g.edges
  long = length-map g.edges (λ (x : Edge). x.weight)

  cut_of : (t : List Bool) → Edges (weights g.edges) t → keeps t → cut.Cut g rules orders (rising 0 t)
  cut_of t et p = record {
    rising = rising-rising 0 (length g.edges) t (λ k h. omega (arith, (et.known k h).0, long));
    separates = separates g t sound ruling asks p;
  }

  flags_of : (d : List ℕ) → cut.Cut g rules orders d → (t : List Bool) → rising 0 t ≡ d → keeps t
  flags_of d c t q = apart g t sound ruling asks (subst⁻¹ (Separates g rules orders) q c.separates)

  pub chosen_of : (c : List Bool) → Edges (weights g.edges) c → Least (weights g.edges) keeps c → ChosenCut g rules orders (rising 0 c)
  chosen_of = least_best (weights g.edges) (omega (arith, long)) (λ e h. let l : e < length g.edges = omega (arith, long) in
      omega (arith, heft g e, (sound.ends e l).2)) (λ e. (edge g e).weight) (heft g)
      keeps (cut.Cut g rules orders) cut_of (λ d c. subst⁻¹ (λ (m : ℕ). Rising 0 m d) long c.rising) flags_of
