-- Held, cut, sound and what ask shows, each as a test.
-- Assumes nothing.
use mathlib.Core.Bool.{Bool, true, false, ◌&&◌, ◌||◌, not}
use mathlib.Core.List.{List, [], ◌∷◌, drop_last}
use mathlib.Core.Logic.{◌⊎◌, inl, inr, ◌≢◌}
use mathlib.Core.Path.{◌≡◌, sym, subst}
use Prim.Native.Nat.{ℕ, suc, ◌<◌, ◌≤◌}
use native.Mathlib.Omega.{arith}
use lib.Dec.{T, eqb, ltb, leb}
use lib.ListN.{length}
use Rattle.graph.specs.declared.Order.{Order}
use Rattle.graph.specs.declared.Rule.{Rule}
use Rattle.graph.specs.Ask.{along, Asked, is_held, is_open, ShownWithout}
use Rattle.graph.specs.Cut.{Rising, First, Best, Separates, weight, ChosenCut}
use Rattle.graph.specs.Graph.{Graph, Sound, edge}
use Rattle.graph.specs.Held.{HeldWithout}
use Rattle.graph.proofs.Lists.{every_set, every_set_so, every_set_back}
use Rattle.graph.proofs.Ordered.{ordersb, says_orders}
use Rattle.graph.proofs.Route.{every_route, routeb, says_every_route, says_route}
use Rattle.graph.proofs.Says.{Says, says_T, says_yes, says_no, says_and, says_or, says_not, implies, says_implies, says_iff, decide, stable, says_eq, says_lt, says_le, everyb, some_below, says_below, eqs, says_eqs, says_every}

module _ (g : Graph) (rules : List Rule) where
  abbrev pub heldb : List ℕ → ℕ → ℕ → Bool
  heldb c a b = every_route g c a b (λ between. ordersb g rules a between b)

  pub says_held : Sound g → (c : List ℕ) (a b : ℕ) → Says (heldb c a b) (HeldWithout g rules c a b)
  says_held sound c a b = says_every_route g c sound a b (λ between. says_orders g rules a between b)

  abbrev pub separatesb : List Order → List ℕ → Bool
  separatesb orders c = everyb (λ o. heldb c o.first o.second) orders

  pub says_separates : Sound g → (orders : List Order) (c : List ℕ) → Says (separatesb orders c) (Separates g rules orders c)
  says_separates sound orders c = says_every (λ o. says_held sound c o.first o.second) orders

abbrev pub risingb : ℕ → ℕ → List ℕ → Bool
risingb lo m [] = true
risingb lo m (x ∷ xs) = leb lo x && (ltb x m && risingb (suc x) m xs)

pub says_rising : (lo m : ℕ) (c : List ℕ) → Says (risingb lo m c) (Rising lo m c)
says_rising lo m [] = says_yes tt
says_rising lo m (x ∷ c) =
    says_iff (λ (p, (q, r)). (p, q, r)) (λ (p, q, r). (p, (q, r))) (says_and (says_le lo x) (says_and (says_lt x m) (says_rising (suc x) m c)))

abbrev pub firstb : List ℕ → List ℕ → Bool
firstb [] ys = true
firstb (x ∷ xs) [] = false
firstb (x ∷ xs) (y ∷ ys) = ltb x y || (eqb x y && firstb xs ys)

pub says_first : (c d : List ℕ) → Says (firstb c d) (First c d)
says_first [] ys = says_yes tt
says_first (x ∷ xs) [] = says_no (λ z. z)
says_first (x ∷ xs) (y ∷ ys) = says_or (says_lt x y) (says_and (says_eq x y) (says_first xs ys))

abbrev pub betterb : (List ℕ → Bool) → (List ℕ → ℕ) → List ℕ → List ℕ → Bool
betterb good weigh c d = implies (good d) (leb (weigh c) (weigh d) && implies (eqb (weigh c) (weigh d)) (firstb c d))

abbrev pub bestb : (List ℕ → Bool) → (List ℕ → ℕ) → ℕ → List ℕ → Bool
bestb good weigh m c = (risingb 0 m c && good c) && every_set m 0 (betterb good weigh c)

-- the best of the sets below m with Good
module _ {good : List ℕ → Bool} {Good : List ℕ → Type 0} (says : (c : List ℕ) → Says (good c) (Good c)) (weigh : List ℕ → ℕ) (m : ℕ) where
  says_better : (c d : List ℕ) → Says (betterb good weigh c d) (Good d → (weigh c ≤ weigh d) × (weigh c ≡ weigh d → First c d))
  says_better c d = says_implies (says d) (says_and (says_le (weigh c) (weigh d)) (says_implies (says_eq (weigh c) (weigh d)) (says_first c d)))

  pub says_best : (c : List ℕ) → Says (bestb good weigh m c) (Best (λ d. Rising 0 m d × Good d) weigh c)
  says_best c = says_iff there back (says_and (says_and (says_rising 0 m c) (says c)) (says_T (every_set m 0 (betterb good weigh c))))
    where
      there : (Rising 0 m c × Good c) × T (every_set m 0 (betterb good weigh c)) → Best (λ d. Rising 0 m d × Good d) weigh c
      there (r, t) = record {
        among = r;
        least = λ d gd. ((says_better c d).so (every_set_so m 0 m (betterb good weigh c) (omega arith) t d gd.0) gd.1).0;
        first = λ d gd. ((says_better c d).so (every_set_so m 0 m (betterb good weigh c) (omega arith) t d gd.0) gd.1).1;
      }

      back : Best (λ d. Rising 0 m d × Good d) weigh c → (Rising 0 m c × Good c) × T (every_set m 0 (betterb good weigh c))
      back h = (
        h.among,
        every_set_back m 0 m (betterb good weigh c) (omega arith)
            (λ d rd. (says_better c d).back (λ gd. (h.least d (rd, gd), h.first d (rd, gd)))),
      )

pub says_cut : (g : Graph) (rules : List Rule) → Sound g → (orders : List Order) (c : List ℕ)
    → Says (bestb (separatesb g rules orders) (weight g) (length g.edges) c) (ChosenCut g rules orders c)
says_cut g rules sound orders c = says_iff
    (λ h. record {
      among = record { rising = h.among.0; separates = h.among.1 };
      least = λ d k. h.least d (k.rising, k.separates);
      first = λ d k. h.first d (k.rising, k.separates);
    })
    (λ h. record {
      among = (h.among.rising, h.among.separates);
      least = λ d k. h.least d record { rising = k.0; separates = k.1 };
      first = λ d k. h.first d record { rising = k.0; separates = k.1 };
    })
    (says_best (says_separates g rules sound orders) (weight g) (length g.edges) c)

-- the edges' ends are nodes and no pair stands twice
abbrev pub soundb : Graph → Bool
soundb g =
    not (some_below (length g.edges) (λ i. not (ltb (edge g i).from (length g.nodes) &&
    (ltb (edge g i).to (length g.nodes) && leb 1 (edge g i).weight))))
    && not (some_below (length g.edges) (λ i. some_below i (λ j. eqb (edge g i).from (edge g j).from && eqb (edge g i).to (edge g j).to)))

pub sound_so : (g : Graph) → T (soundb g) → Sound g
sound_so g t = record { ends = ends; pairs = λ i j hi hj f t₂. stable (says_eq i j) (λ d. apart i j hi hj f t₂ d (decide (says_lt i j))) }
  where
    m : ℕ
    m = length g.edges

    says_ends : (i : ℕ)
        → Says (ltb (edge g i).from (length g.nodes) && (ltb (edge g i).to (length g.nodes) && leb 1 (edge g i).weight))
        (((edge g i).from < length g.nodes) × ((edge g i).to < length g.nodes) × (1 ≤ (edge g i).weight))
    says_ends i = says_iff (λ (p, (q, r)). (p, q, r)) (λ (p, q, r). (p, (q, r))) (says_and (says_lt _ _) (says_and (says_lt _ _) (says_le _ _)))

    says_twin : (i j : ℕ)
        → Says (eqb (edge g i).from (edge g j).from && eqb (edge g i).to (edge g j).to)
        (((edge g i).from ≡ (edge g j).from) × ((edge g i).to ≡ (edge g j).to))
    says_twin i j = says_and (says_eq _ _) (says_eq _ _)

    halves : ((i : ℕ) × (i < m) × (((edge g i).from < length g.nodes) × ((edge g i).to < length g.nodes) × (1 ≤ (edge g i).weight) → ⊥) → ⊥)
        × ((i : ℕ) × (i < m) × ((j : ℕ) × (j < i) × (((edge g i).from ≡ (edge g j).from) × ((edge g i).to ≡ (edge g j).to))) → ⊥)
    halves = (says_and (says_not (says_below m (λ i h. says_not (says_ends i)))) (says_not (says_below m (λ i h. says_below i (λ j k. says_twin i j))))).so t

    ends : (i : ℕ) → i < m → ((edge g i).from < length g.nodes) × ((edge g i).to < length g.nodes) × (1 ≤ (edge g i).weight)
    ends i h = stable (says_ends i) (λ n. halves.0 (i, h, n))

    apart : (i j : ℕ) → i < m → j < m → (edge g i).from ≡ (edge g j).from → (edge g i).to ≡ (edge g j).to → i ≢ j → (i < j) ⊎ ((i < j) → ⊥) → ⊥
    apart i j hi hj f t₂ d (inl l) = halves.1 (j, hj, (i, l, (sym f, sym t₂)))
    apart i j hi hj f t₂ d (inr l) = halves.1 (i, hi, (j, (omega arith), (f, t₂)))

-- ask
module _ (g : Graph) (rules : List Rule) where
  abbrev pub shownb : ℕ → List ℕ → ℕ → Bool
  shownb a between b = routeb g [] a between b && (not (ordersb g rules a between b)
      && every_route g [] a b (λ other. implies (not (ordersb g rules a other b)) (firstb (along a between b) (along a other b))))

  pub says_shown : Sound g → (a : ℕ) (between : List ℕ) (b : ℕ) → Says (shownb a between b) (ShownWithout g rules [] a between b)
  says_shown sound a between b = says_iff (λ (r, (u, f)). record { route = r; unordered = u; first = f }) (λ s. (s.route, (s.unordered, s.first)))
      (says_and (says_route g [] a between b) (says_and (says_not (says_orders g rules a between b))
      (says_every_route g [] sound a b (λ other. says_implies (says_not (says_orders g rules a other b)) (says_first (along a between b) (along a other b))))))

  -- an answer is read as its first node, those between and its last
  abbrev pub askedb : Order → List ℕ → Bool
  askedb o [] = heldb g rules [] o.first o.second
  askedb o (x ∷ route) = eqs (along o.first (drop_last route) o.second) (x ∷ route) && shownb o.first (drop_last route) o.second

  pub asked_so : Sound g → (o : Order) (route : List ℕ) → T (askedb o route) → Asked g rules o route
  asked_so sound o [] t = is_held ((says_held g rules sound [] o.first o.second).so t)
  asked_so sound o (x ∷ route) t =
      let p = (says_and (says_eqs (along o.first (drop_last route) o.second) (x ∷ route)) (says_shown sound o.first (drop_last route) o.second)).so
      t in
      subst (Asked g rules o) p.0 (is_open p.1)
