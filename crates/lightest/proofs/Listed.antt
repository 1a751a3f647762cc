-- The steps that settle the list of the chosen cut, edge by edge. P is what a cut must satisfy.
-- Assumes nothing.
use mathlib.Core.Bool.{Bool, true, false}
use mathlib.Core.List.{List}
use mathlib.Core.Logic.{◌⊎◌, inl, inr, ⊎_elim}
use mathlib.Core.Path.{◌≡◌, refl, sym, ap, subst, ◌∙◌}
use Prim.Native.Nat.{ℕ, ◌+◌, ◌-◌, ◌<◌, ◌≤◌}
use native.Mathlib.Omega.{arith}
use lib.ListN.{length, get_or, set, replicate}
use lib.Seq.{get_or-set_same, get_or-set_other, ext_get_or}
use Rattle.lightest.specs.Made.{Cut, Made}
use Rattle.lightest.specs.Search.{Branch, Addable, Packed, Picked}
use Rattle.lightest.specs.Sets.{Has, Edges, PartOf, Least, weigh}
use Rattle.graph.specs.Cut.{First}
use Rattle.graph.specs.Limits.{most_edges}
use Rattle.graph.specs.Value.{rising}
use Rattle.graph.proofs.Splits.{true_false, bool, lt_or_ge}
use Rattle.lightest.proofs.Fore.{Agree, agree-more, fore_first}
use Rattle.lightest.proofs.Grown.{grown, grown_part, grown_heavy}
use Rattle.lightest.proofs.Weights.{none_has, total_has, total-part}
use Rattle.graph.proofs.Better.{first_refl}

-- below e the two agree, or a has the first edge in which they differ
abbrev pub NotLater : List Bool → List Bool → ℕ → Type 0
NotLater a b e = Agree a b e ⊎ ((j : ℕ) × (j < e) × Agree a b j × Has a j × (get_or b j false ≡ false))

-- c is a lightest cut, k its edges below e, and below e it is ahead of every cut as light
pub record Listed (ws : List ℕ) (P : List Bool → Type 0) (c k : Cut) (e : ℕ) : Type 0 where
  pub made : Made ws c
  pub good : P c.chosen
  pub least : (t : List Bool) → Edges ws t → P t → c.weight ≤ weigh ws t
  pub part : Made ws k
  pub same : Agree k.chosen c.chosen e
  pub rest : (j : ℕ) → e ≤ j → get_or k.chosen j false ≡ false
  pub fore : (t : List Bool) → Edges ws t → P t → weigh ws t ≡ c.weight → NotLater c.chosen t e

not_later_step : (a b : List Bool) (e : ℕ) → NotLater a b e → Has a e → NotLater a b (e + 1)
not_later_step a b e (inr q) h = inr (q.0, omega (arith, q.1), q.2, q.3, q.4)
not_later_step a b e (inl q) h = ⊎_elim (λ t. inl (agree-more a b e q (h ∙ sym t))) (λ f. inr (e, omega arith, q, h, f)) (bool (get_or b e false))

module _ {ws : List ℕ} {P : List Bool → Type 0} (few : length ws ≤ most_edges) where
  -- every cut has the edges of the empty one
  branch_all : (s : Cut) → s.chosen ≡ replicate most_edges false → (t : List Bool) → Edges ws t → P t → Branch ws P s.chosen t
  branch_all s z t et p = record { edges = et; good = p; has = λ i h. true_false h (none_has most_edges z i) }

  -- some cut, first, and the search below its weight
  pub listed_start : {s k first c : Cut} {limit : ℕ} → s.chosen ≡ replicate most_edges false → Made ws k → k.chosen ≡ replicate most_edges false
      → Made ws first → P first.chosen → Picked ws P s limit c → (c.weight ≡ limit → first ≡ c) → Listed ws P c k 0
  listed_start {s = s} {c = c} {limit = limit} z mk zk mf pf pk same = record {
    made = settled.0;
    good = settled.1;
    least = λ t et p. pk.least t (branch_all s z t et p);
    part = mk;
    same = λ j h. absurd (omega arith);
    rest = λ j h. none_has most_edges zk j;
    fore = λ t et p w. inl (λ j h. absurd (omega arith));
  }
    where
      settled : Made ws c × P c.chosen
      settled = ⊎_elim (λ l. let y = pk.capped.some l in (y.0, y.1.good))
          (λ l. subst (λ (x : Cut). Made ws x × P x.chosen) (same (omega (arith, pk.capped.low))) (mf, pf)) (lt_or_ge c.weight limit)

  module _ {c k : Cut} {e : ℕ} (y : Listed ws P c k e) where
    -- what agrees with c below e has the edges of k
    agree-part : (t : List Bool) → Agree c.chosen t e → PartOf k.chosen t
    agree-part t q j h = ⊎_elim (λ l. sym (q j l) ∙ sym (y.same j l) ∙ h) (λ l. true_false h (y.rest j l)) (lt_or_ge j e)

    within : PartOf k.chosen c.chosen
    within = agree-part c.chosen (λ j l. refl)

    pub listed_light : k.weight ≤ c.weight
    listed_light =
        let l = y.part.edges.long ∙ sym y.made.edges.long in
        omega (arith, y.made.sum, y.part.sum, total-part (λ i. get_or ws i 0) 0 k.chosen c.chosen l within)

    pub listed_gap : (s : Cut) (left : List ℕ) (sum : ℕ) → s.chosen ≡ replicate most_edges false → Packed ws P s left sum → sum ≤ c.weight
    listed_gap s left sum q pa = omega (arith, y.made.sum, pa c.chosen (branch_all s q c.chosen y.made.edges y.good))

    -- no cut as light goes on from k with e
    abbrev pub Barren : Type 0
    Barren = (t : List Bool) → Edges ws t → P t → weigh ws t ≡ c.weight → PartOf k.chosen t → Has t e → ⊥

    pub listed_skip : get_or c.chosen e false ≡ false → Barren → Listed ws P c k (e + 1)
    listed_skip f barren = record {
      made = y.made;
      good = y.good;
      least = y.least;
      part = y.part;
      same = agree-more k.chosen c.chosen e y.same (y.rest e (omega arith) ∙ sym f);
      rest = λ j h. y.rest j (omega arith);
      fore = λ t et p w. ⊎_elim (λ q. inl (agree-more c.chosen t e q
          (⊎_elim (λ z. absurd (barren t et p w (agree-part t q) z)) (λ z. f ∙ sym z) (bool (get_or t e false)))))
          (λ q. inr (q.0, omega (arith, q.1), q.2, q.3, q.4)) (y.fore t et p w);
    }

    module _ (l : e < length ws) (p : 1 ≤ get_or ws e 0) where
      adds : Addable ws k.chosen e
      adds = (l, p, y.rest e (omega arith))

      long : e < length k.chosen
      long = omega (arith, few, y.part.edges.long)

      -- the edge weighs more than what remains
      pub barren_heavy : c.weight < k.weight + get_or ws e 0 → Barren
      barren_heavy h t et pt w g q = omega (arith, h, w, grown_heavy ws few k y.part e adds t et g q)

      -- more is left of the edge than a cut as light can leave
      pub barren_slack : (s : Cut) (left : List ℕ) (sum : ℕ) → s.chosen ≡ replicate most_edges false → Packed ws P s left sum
          → c.weight < sum + get_or left e 0 → Barren
      barren_slack s left sum z pa h t et pt w g q = omega (arith, h, w, total_has (λ i. get_or left i 0) 0 t e e (omega arith) q, pa t (branch_all s z t et pt))

      pub listed_room : Has c.chosen e → k.weight + get_or ws e 0 ≤ c.weight
      listed_room h = omega (arith, y.made.sum, grown_heavy ws few k y.part e adds c.chosen y.made.edges within h)

      module _ {w : ℕ} (we : w ≡ get_or ws e 0) {k' : Cut} (more : (k'.chosen ≡ set k.chosen e true) × (k'.weight ≡ k.weight + w))
          (room : k.weight + w ≤ c.weight) where
        pub listed_grown : Made ws k'
        listed_grown = grown ws few k y.part e adds k' w we (omega (arith, room, y.made.small)) more.0 more.1

        new_at : get_or k'.chosen e false ≡ true
        new_at = ap (λ (v : List Bool). get_or v e false) more.0 ∙ get_or-set_same k.chosen e true false long

        new_off : (j : ℕ) → (j ≡ e → ⊥) → get_or k'.chosen j false ≡ get_or k.chosen j false
        new_off j n = ap (λ (v : List Bool). get_or v j false) more.0 ∙ get_or-set_other k.chosen e j true false n

        rest' : (j : ℕ) → e + 1 ≤ j → get_or k'.chosen j false ≡ false
        rest' j h = new_off j (λ z. omega (arith, z)) ∙ y.rest j (omega arith)

        -- c has the edge
        pub listed-take : Has c.chosen e → Listed ws P c k' (e + 1)
        listed-take h = record {
          made = y.made;
          good = y.good;
          least = y.least;
          part = listed_grown;
          same = agree-more k'.chosen c.chosen e (λ j q. new_off j (λ z. omega (arith, z)) ∙ y.same j q) (new_at ∙ sym h);
          rest = rest';
          fore = λ t et pt wt. not_later_step c.chosen t e (y.fore t et pt wt) h;
        }

        module _ {d : Cut} (pk : Picked ws P k' (k'.weight + (c.weight + 1 - k'.weight)) d) where
          -- no cut with the edge is as light
          pub barren_none : c.weight < d.weight → Barren
          barren_none f t et pt wt g q =
              let has = grown_part ws few k y.part e adds k' more.0 t g q in
              omega (arith, wt, f, pk.least t (record { edges = et; good = pt; has = has }))

          module _ (f : d.weight ≤ c.weight) where
            found : Made ws d × Branch ws P k'.chosen d.chosen
            found = pk.capped.some (omega (arith, more.1))

            found_weight : d.weight ≡ c.weight
            found_weight = omega (arith, f, found.0.sum, y.least d.chosen found.1.edges found.1.good)

            -- below e it agrees with c
            agree : Agree c.chosen d.chosen e
            agree =
                ⊎_elim (λ q. q)
                (λ q. absurd (true_false (found.1.has q.0 (new_off q.0 (λ v. omega (arith, v, q.1)) ∙ y.same q.0 q.1 ∙ q.3)) q.4))
                (y.fore d.chosen found.1.edges found.1.good (found.0.sum ∙ found_weight))

            has_it : Has d.chosen e
            has_it = found.1.has e new_at

            onward : (t : List Bool) → NotLater c.chosen t e → NotLater d.chosen t e
            onward t (inl q) = inl (λ j h. sym (agree j h) ∙ q j h)
            onward t (inr q) = inr (q.0, q.1, (λ j h. sym (agree j (omega (arith, h, q.1))) ∙ q.2 j h), sym (agree q.0 q.1) ∙ q.3, q.4)

            listed_d : Listed ws P d k' (e + 1)
            listed_d = record {
              made = found.0;
              good = found.1.good;
              least = λ t et pt. omega (arith, found_weight, y.least t et pt);
              part = listed_grown;
              same = agree-more k'.chosen d.chosen e (λ j q. new_off j (λ v. omega (arith, v)) ∙ y.same j q ∙ agree j q) (new_at ∙ sym has_it);
              rest = rest';
              fore = λ t et pt wt. not_later_step d.chosen t e (onward t (y.fore t et pt (wt ∙ found_weight))) has_it;
            }

            -- it is as light, and has the edge
            pub listed_found : Listed ws P (record { chosen = d.chosen; weight = c.weight }) k' (e + 1)
            listed_found = subst (λ (v : ℕ). Listed ws P (record { chosen = d.chosen; weight = v }) k' (e + 1)) found_weight listed_d

  -- every edge is settled
  pub listed_all : {c k : Cut} {e : ℕ} → Listed ws P c k e → length ws ≤ e → Least ws P c.chosen
  listed_all {c = c} {e = e} y h = record {
    good = y.good;
    least = λ t et pt. omega (arith, y.made.sum, y.least t et pt);
    first = λ t et pt q. settled t et q (y.fore t et pt (sym q ∙ y.made.sum));
  }
    where
      none : (t : List Bool) → Edges ws t → (j : ℕ) → e ≤ j → get_or t j false ≡ false
      none t et j q = ⊎_elim (λ x. absurd (omega (arith, q, (et.known j x).0))) (λ x. x) (bool (get_or t j false))

      same : (t : List Bool) → Edges ws t → Agree c.chosen t e → c.chosen ≡ t
      same t et q = ext_get_or false c.chosen t (y.made.edges.long ∙ sym et.long)
          (λ j l. ⊎_elim (q j) (λ x. none c.chosen y.made.edges j x ∙ sym (none t et j x)) (lt_or_ge j e))

      settled : (t : List Bool) → Edges ws t → weigh ws c.chosen ≡ weigh ws t → NotLater c.chosen t e → First (rising 0 c.chosen) (rising 0 t)
      settled t et q (inl z) = rw (same t et z) (first_refl (rising 0 t))
      settled t et q (inr z) =
          fore_first (λ i. get_or ws i 0) 0 c.chosen t z.0 z.0 (omega arith) (y.made.edges.known z.0 z.3).1 q z.2 z.3 z.4
