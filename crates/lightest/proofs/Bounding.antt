-- The packing, route by route: what the oracle's answer adds to the bound.
-- Assumes nothing.
use mathlib.Core.Bool.{Bool, true, false}
use mathlib.Core.List.{List}
use mathlib.Core.Logic.{◌⊎◌, inl, inr, ⊎_elim}
use mathlib.Core.Path.{◌≡◌, ap, sym, ◌∙◌, subst⁻¹}
use Prim.Native.Nat.{ℕ, zero, suc, ◌+◌, ◌<◌, ◌≤◌}
use native.Mathlib.Omega.{arith}
use lib.ListN.{length, get_or}
use borrow.Author.Count.{below_more}
use Rattle.short_list.specs.ShortList.{ShortList}
use Rattle.graph.specs.Graph.{no_order}
use Rattle.graph.specs.declared.Order.{Order}
use Rattle.lightest.specs.Apart.{Apart, Posed, firsts, seconds}
use Rattle.lightest.proofs.Mapped.{first_at, second_at}
use Rattle.lightest.specs.Made.{Cut, Made}
use Rattle.lightest.specs.Search.{Branch, Earlier, Fair, Addable, Light, Missed, Unspent, Reduced, Packed, Bounded}
use Rattle.lightest.specs.Sets.{Has, weigh}
use Rattle.graph.specs.Limits.{most_edges}
use Rattle.route.specs.Way.{Remains}
use Rattle.walked.specs.Unordered.{Out, Parts, FoundUnordered}
use Rattle.walked.proofs.Edges.{unordered_map}
use Rattle.graph.proofs.Splits.{bool}
use Rattle.lightest.proofs.Weights.{total-less, total_unspent}

find_below : (p : ℕ → Bool) (n : ℕ) → ((k : ℕ) × (k < n) × (p k ≡ true)) ⊎ ((k : ℕ) → k < n → p k ≡ false)
find_below p zero = inr (λ k h. absurd (omega arith))
find_below p (suc n) =
    ⊎_elim (λ q. inl (q.0, omega (arith, q.1), q.2))
    (λ f. ⊎_elim (λ e. inl (n, omega arith, e)) (λ e. inr (λ k h. below_more (λ k. p k ≡ false) n f e k (omega (arith, h)))) (bool (p n)))
    (find_below p n)

-- the ends that were looked for are those of a pair
pub found_of : {from to fits left : List ℕ} {a b : ℕ} {r : List ℕ} (ps : List Order) (i : ℕ) → a ≡ (get_or ps i no_order).first → b ≡ (get_or ps i no_order).second
    → FoundUnordered from to fits left a b r → FoundUnordered from to fits left (get_or (firsts ps) i 0) (get_or (seconds ps) i 0) r
found_of ps i p q fo = rw (first_at ps i, second_at ps i, sym p, sym q) fo

-- a route to go on with
abbrev Forks : List ℕ → (List Bool → Type 0) → List Bool → List ℕ → Type 0
Forks ws P s r = Fair r × (0 < length r) × Missed ws P s r

-- what is packed after the pairs before i
pub record Bounding (from to fits ws us vs : List ℕ) (s : Cut) (left : List ℕ) (first : List ℕ) (sum i : ℕ) : Type 0 where
  pub long : length left ≡ most_edges
  pub packed : Packed ws (Apart from to fits us vs) s left sum
  pub fair : Fair first
  pub none : length first ≡ 0 → Unspent ws s.chosen left × ((k : ℕ) → k < i → Parts from to fits (get_or us k 0) (get_or vs k 0) s.chosen)
  pub next : 0 < length first → Missed ws (Apart from to fits us vs) s.chosen first

module _ {from to ins on fits ws us vs : List ℕ} (kn : Posed from to ins on ws us vs) where
  -- a route of a pair over what is left, or none
  module _ {left : List ℕ} {i : ℕ} {r : List ℕ} (l : i < length us) (fo : FoundUnordered from to fits left (get_or us i 0) (get_or vs i 0) r) where
    pub fair_route : Fair r
    fair_route = record { short = fo.short; below = λ k h. omega (arith, kn.net.few, (fo.edge k h).0) }

    -- a cut has an edge of the route
    meets : 0 < length r → (t : List Bool) → Apart from to fits us vs t → (k : ℕ) × (k < length r) × Has t (get_or r k 0)
    meets some t p =
        ⊎_elim (λ q. q) (λ q. absurd (let w = fo.way some t q in p i l w.0 w.1))
        (find_below (λ k. get_or t (get_or r k 0) false) (length r))

    module _ {s : List Bool} (u : Unspent ws s left) where
      -- the first route, when nothing is spent
      edge_first : (k : ℕ) → k < length r → Addable ws s (get_or r k 0)
      edge_first k h =
          let f = fo.edge k h in
          let out = ⊎_elim (λ y. absurd (omega (arith, f.1, u.none _ y))) (λ y. y) (bool (get_or s (get_or r k 0) false)) in
          (omega (arith, f.0, kn.weights), omega (arith, f.1, u.low (get_or r k 0)), out)

      next_first : 0 < length r → Missed ws (Apart from to fits us vs) s r
      next_first some = record { edge = edge_first; must = meets some }

      -- no route: s keeps the pair apart
      parts_first : length r ≡ 0 → Parts from to fits (get_or us i 0) (get_or vs i 0) s
      parts_first z es w = fo.none z es (unordered_map from to fits (Out s) (Remains left) remains (get_or us i 0) es (get_or vs i 0) w)
        where
          remains : (e : ℕ) → e < length from → Out s e → Remains left e
          remains e h o = omega (arith, u.full e (omega (arith, h, kn.weights)) o, kn.some e (omega (arith, h, kn.weights)))

  module _ {s : Cut} (ms : Made ws s) where
    pub bounding_start : {left : List ℕ} {first : List ℕ} → length left ≡ most_edges → Unspent ws s.chosen left → length first ≡ 0
        → Bounding from to fits ws us vs s left first 0 0
    bounding_start {left = left} l u z = record {
      long = l;
      packed = λ t b. omega (
        arith,
        ms.sum,
        total_unspent (λ i. get_or ws i 0) (λ i. get_or left i 0) 0 s.chosen t (ms.edges.long ∙ sym b.edges.long) b.has
            (λ e i q h. ap (λ (j : ℕ). get_or left j 0) (omega (arith, q)) ∙ u.none e h) u.low,
      );
      fair = record { short = omega arith; below = λ k h. absurd (omega arith) };
      none = λ q. (u, λ k h. absurd (omega arith));
      next = λ h. absurd (omega arith);
    }

    -- there is a route to go on with, or every pair was looked at
    pub bounding_end : {left : List ℕ} {first : ShortList ℕ} {sum i : ℕ} → Light ws → Bounding from to fits ws us vs s left first.items sum i
        → (length first.items ≡ 0 → length us ≤ i) → Bounded ws (Apart from to fits us vs) s (record { route = first; left = left; sum = sum })
    bounding_end w f h = record { light = w; fair = f.fair; packed = f.packed; none = λ z k l. (f.none z).1 k (omega (arith, l, h z)); next = f.next }

    module _ {left : List ℕ} {first : List ℕ} {sum i : ℕ} (f : Bounding from to fits ws us vs s left first sum i) where
      module _ {r : List ℕ} (l : i < length us) (fo : FoundUnordered from to fits left (get_or us i 0) (get_or vs i 0) r) where
        -- the pair has no route
        pub bounding_next : length r ≡ 0 → Bounding from to fits ws us vs s left first sum (i + 1)
        bounding_next z = record {
          long = f.long;
          packed = f.packed;
          fair = f.fair;
          none = λ q.
              let y = f.none q in
              (y.0, below_more (λ k. Parts from to fits (get_or us k 0) (get_or vs k 0) s.chosen) i y.1 (parts_first l fo y.0 z));
          next = f.next;
        }

        module _ (some : 0 < length r) {o : List ℕ} (k : Earlier first r o) where
          -- the route that is kept
          kept : Forks ws (Apart from to fits us vs) s.chosen o
          kept =
              ⊎_elim (λ z. subst⁻¹ (Forks ws (Apart from to fits us vs) s.chosen) z.1 (fair_route l fo, some, next_first l fo (f.none z.0).0 some))
              (λ z. subst⁻¹ (Forks ws (Apart from to fits us vs) s.chosen) z.1 (f.fair, z.0, f.next z.0)) k

          pub kept_some : 0 < length o
          kept_some = kept.1

          pub bounding_more : {left' : List ℕ} {q w : ℕ} → ((k : ℕ) → k < length r → q ≤ get_or left (get_or r k 0) 0) → Reduced r q left left' → w ≡ q
              → Bounding from to fits ws us vs s left' o (sum + w) i
          bounding_more {left' = left'} {q = q} {w = w} sm rd e = record {
            long = rd.long;
            packed = packed;
            fair = kept.0;
            none = λ z. absurd (omega (arith, kept.1, z));
            next = λ h. kept.2;
          }
            where
              packed : (t : List Bool) → Branch ws (Apart from to fits us vs) s.chosen t → s.weight + (sum + w) + weigh left' t ≤ weigh ws t
              packed t br =
                  let m = meets l fo some t br.good in
                  let x = get_or r m.0 0 in
                  let less = rd.less m.0 m.1 (sm m.0 m.1) in
                  omega (arith, f.packed t br, e, total-less (λ i. get_or left i 0) (λ i. get_or left' i 0) 0 t q x x (omega arith) rd.down m.2 less)
