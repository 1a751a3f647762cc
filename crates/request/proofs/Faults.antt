-- What is wrong with the records of a file, answer by answer; a file has one list of records.
-- Assumes nothing.
use mathlib.Core.List.{List, [], ◌∷◌}
use mathlib.Core.Path.{◌≡◌, refl, sym, ap, ◌∙◌, subst}
use Prim.Native.Nat.{ℕ}
use lib.ListN.{length, get_or}
use Rattle.request.specs.declared.Answer.{Answer}
use Rattle.request.specs.declared.Answer.TheVariants.{Unreadable, TooMany, BadNode, BadEdge, BadRule, BadOrder, NoFenceRules, NoSuchOrder, NoRoom, NotLoose, ShortBuffer}
use Rattle.request.specs.Bad.{no_node, no_rule, first_edge, first_rule, first_order, Unread, Listed, WrongNode, WrongEdge, WrongRule, WrongOrder, Beyond, Unfenced, Bad, unread, beyond, wrong_node, wrong_edge, wrong_rule, wrong_order, unfenced}
use Rattle.request.specs.Decode.{raw_of}
use Rattle.request.specs.Raw.{Raw, file}
use Rattle.request.proofs.Laid.{laid_raw, laid-counts}

pub file_once : (s : List ℕ) (w v : Raw) → s ≡ file w → s ≡ file v → v ≡ w
file_once s w v e f =
    sym (laid_raw s v (69 ∷ 78 ∷ []) f)
    ∙ ap (raw_of s) (laid-counts s v (69 ∷ 78 ∷ []) f refl ∙ sym (laid-counts s w (69 ∷ 78 ∷ []) e refl))
    ∙ laid_raw s w (69 ∷ 78 ∷ []) e

-- this answer applies to the records at p
abbrev pub Fault : Raw → Answer → ℕ → Type 0
Fault w Unreadable p = ⊥
Fault w TooMany p = Beyond w p
Fault w BadNode p = Listed 0 (length w.nodes) (λ i. WrongNode (get_or w.nodes i no_node)) p
Fault w BadEdge p = Listed (first_edge w) (length w.edges) (WrongEdge (length w.nodes) w.edges) p
Fault w BadRule p = Listed (first_rule w) (length w.rules) (λ i. WrongRule (get_or w.rules i no_rule)) p
Fault w BadOrder p = Listed (first_order w) (length w.orders) (WrongOrder (length w.nodes) w.orders) p
Fault w NoFenceRules p = Unfenced w × (p ≡ 0)
Fault w NoSuchOrder p = ⊥
Fault w NoRoom p = ⊥
Fault w NotLoose p = ⊥
Fault w ShortBuffer p = ⊥

-- no answer applies to them
abbrev pub Clean : Raw → Type 0
Clean w = (a : Answer) (p : ℕ) → Fault w a p → ⊥

module _ (s : List ℕ) (w : Raw) (e : s ≡ file w) where
  pub bad_fault : {a : Answer} {p : ℕ} → Bad s a p → Fault w a p
  bad_fault (unread u) = u.no_file w e
  bad_fault {p = p} (beyond v f b) = subst (λ (x : Raw). Fault x TooMany p) (file_once s w v e f) b
  bad_fault {p = p} (wrong_node v f b) = subst (λ (x : Raw). Fault x BadNode p) (file_once s w v e f) b
  bad_fault {p = p} (wrong_edge v f b) = subst (λ (x : Raw). Fault x BadEdge p) (file_once s w v e f) b
  bad_fault {p = p} (wrong_rule v f b) = subst (λ (x : Raw). Fault x BadRule p) (file_once s w v e f) b
  bad_fault {p = p} (wrong_order v f b) = subst (λ (x : Raw). Fault x BadOrder p) (file_once s w v e f) b
  bad_fault (unfenced v f b) = subst (λ (x : Raw). Fault x NoFenceRules 0) (file_once s w v e f) (b, refl)

  pub fault_bad : (a : Answer) (p : ℕ) → Fault w a p → Bad s a p
  fault_bad Unreadable p b = absurd b
  fault_bad TooMany p b = beyond w e b
  fault_bad BadNode p b = wrong_node w e b
  fault_bad BadEdge p b = wrong_edge w e b
  fault_bad BadRule p b = wrong_rule w e b
  fault_bad BadOrder p b = wrong_order w e b
  fault_bad NoFenceRules p b = subst (λ (q : ℕ). Bad s NoFenceRules q) (sym b.1) (unfenced w e b.0)
  fault_bad NoSuchOrder p b = absurd b
  fault_bad NoRoom p b = absurd b
  fault_bad NotLoose p b = absurd b
  fault_bad ShortBuffer p b = absurd b

pub bad_unread : (s : List ℕ) (p : ℕ) → Bad s Unreadable p → Unread s p
bad_unread s p (unread u) = u
