-- A file of bytes has exactly one reading: it is accepted exactly when it is the bytes of a proper request, and then that request is read from it.
-- Assumes nothing.
use mathlib.Core.List.{List, [], ◌∷◌}
use mathlib.Core.Path.{◌∙◌, ◌≡◌, ap, ap₂, refl, subst, sym}
use Prim.Native.Nat.{◌*◌, ◌+◌, ℕ}
use native.Mathlib.Omega.{arith}
use lib.ListN.{length, length-map}
use Rattle.request.specs.declared.Answer.{Answer}
use Rattle.request.specs.declared.Counts.{Counts}
use Rattle.request.specs.declared.Mark.TheVariants.{Nd, Ed, Ru, Or}
use Rattle.request.specs.declared.Refusal.{Refusal}
use Rattle.std.specs.Prelude.{Result, Ok, Err}
use Rattle.request.specs.Answers.{refused}
use Rattle.graph.specs.Graph.{no_edge}
use Rattle.request.specs.Bad.{Bad, no_node}
use Rattle.request.specs.Decode.{counts_of_raw, label_of_node, raw_label, raw_rule, raw_of, rawed, records_in, request_of, rule_of, understood}
use Rattle.request.specs.File.{Bytes, Request, bytes}
use Rattle.request.specs.Layout.{counts_in, end_of, start_of}
use Rattle.request.specs.Outcome.{Answered}
use Rattle.request.specs.Proper.{Holds, Proper, counts_of}
use Rattle.request.specs.Raw.{file}
use Rattle.request.specs.Tables.{reading_of}
use Rattle.graph.proofs.Unique.{refused_unique}
use Rattle.request.proofs.Clean.{Narrow, clean_proper, clean_rawed, proper_clean}
use Rattle.request.proofs.Faults.{Clean, bad_fault}
use Rattle.request.proofs.Judged.{Judged, judged}
use Rattle.request.proofs.Laid.{laid-counts, laid_raw}
use Rattle.request.proofs.Ranked.{rank_apart}
use Rattle.request.proofs.Records.{record_read, records_length}
use Rattle.request.proofs.Sides.{file-rawed, understood-rawed}
use Rattle.request.proofs.Unread.{ended_at}

-- ---- bytes to a request and back

counts-rawed : (r : Request) → counts_of_raw (rawed r) ≡ counts_of r
counts-rawed r =
    let p = length-map r.graph.nodes raw_label in
    let q = length-map r.rules raw_rule in
    λ i. record { nodes = p i; edges = length r.graph.edges; rules = q i; orders = length r.orders }

module _ (s : List ℕ) (r : Request) (e : s ≡ bytes r) where
  pub counts-read : counts_in s ≡ counts_of r
  counts-read = sym (laid-counts s (rawed r) (69 ∷ 78 ∷ []) (e ∙ file-rawed r) refl) ∙ counts-rawed r

  -- the request is read from its bytes, whether it is proper or not
  pub request-read : request_of s (counts_of r) ≡ r
  request-read = ap (request_of s) (sym (counts-rawed r)) ∙ ap understood (laid_raw s (rawed r) (69 ∷ 78 ∷ []) (e ∙ file-rawed r)) ∙ understood-rawed r

pub bytes-length : (r : Request) → length (bytes r) ≡ end_of (counts_of r) + 2
bytes-length r = omega (arith, ap end_of (counts-read (bytes r) r refl), (ended_at (bytes r) (rawed r) [] (file-rawed r)).2)

-- no two requests have the same bytes
pub bytes_once : (r q : Request) → bytes r ≡ bytes q → r ≡ q
bytes_once r q e =
    sym (request-read (bytes r) r refl)
    ∙ ap (request_of (bytes r)) (sym (counts-read (bytes r) r refl) ∙ counts-read (bytes r) q e)
    ∙ request-read (bytes r) q e

module _ (s : List ℕ) (cs : Counts) (r : Request) (H : Holds s cs r) where
  pub holds_counts : cs ≡ counts_in s
  holds_counts = H.counts ∙ sym (counts-read s r H.is_bytes)

  -- a file holds only the request that is read from it
  pub holds_only : request_of s cs ≡ r
  holds_only = ap (request_of s) H.counts ∙ request-read s r H.is_bytes

  -- and its bytes are the file again
  pub holds_bytes : bytes (request_of s cs) ≡ s
  holds_bytes = ap bytes holds_only ∙ sym H.is_bytes

  -- no answer applies to it
  pub holds_clean : {a : Answer} {p : ℕ} → Bad s a p → ⊥
  holds_clean {a} {p} b = proper_clean r H.proper a p (bad_fault s (rawed r) (H.is_bytes ∙ file-rawed r) b)

-- ---- the reading

narrow : (s : List ℕ) (cs : Counts) → Bytes s → Narrow (raw_of s cs)
narrow s cs h = record {
  addresses = λ i l. rw (record_read s cs Nd no_node i (omega (arith, l, records_length s cs Nd))) (h (0 + i * 4 + 3));
  weights = λ i l.
      rw (record_read s cs Ed no_edge i (omega (arith, l, records_length s cs Ed)))
      (omega (arith, h (start_of cs Ed + i * 8 + 6), h (start_of cs Ed + i * 8 + 6 + 1)));
}

pub counts_lengths : (s : List ℕ) (cs : Counts) → cs ≡ counts_of (request_of s cs)
counts_lengths s cs =
    let p = sym (length-map (records_in s cs Nd) label_of_node ∙ records_length s cs Nd) in
    let q = sym (length-map (records_in s cs Ru) rule_of ∙ records_length s cs Ru) in
    let u = sym (records_length s cs Ed) in
    let v = sym (records_length s cs Or) in
    λ i. record { nodes = p i; edges = u i; rules = q i; orders = v i }

clean_holds : (s : List ℕ) (cs : Counts) → Bytes s → s ≡ file (raw_of s cs) → Clean (raw_of s cs) → Holds s cs (request_of s cs)
clean_holds s cs h f c = record {
  is_bytes = f ∙ ap file (sym (clean_rawed (raw_of s cs) c)) ∙ sym (file-rawed (request_of s cs));
  proper = clean_proper (raw_of s cs) c (narrow s cs h);
  counts = counts_lengths s cs;
}

-- what the reader computes is what document 01 says
pub answered : (s : List ℕ) (r : Result Counts Refusal) → Bytes s → r ≡ reading_of s → Answered s r
answered s r h e = go r (subst (Judged s) (sym e) (judged s h))
  where
    go : (x : Result Counts Refusal) → Judged s x → Answered s x
    go (Ok cs) j = (request_of s cs, clean_holds s cs h j.1 j.2)
    go (Err e) j = j

-- and there is no second outcome
pub answered_unique : (s : List ℕ) (x y : Result Counts Refusal) → Answered s x → Answered s y → x ≡ y
answered_unique s (Ok c) (Ok d) (r, H) (q, K) = ap Ok (holds_counts s c r H ∙ sym (holds_counts s d q K))
answered_unique s (Ok c) (Err e) (r, H) R = absurd (holds_clean s c r H R.bad)
answered_unique s (Err e) (Ok d) R (q, K) = absurd (holds_clean s d q K R.bad)
answered_unique s (Err e) (Err f) R K = let u = refused_unique rank_apart R K in ap₂ refused u.0 u.1

-- the bytes of a proper request are accepted; the contract itself says that nothing else is
pub answered_whole : (s : List ℕ) (x : Result Counts Refusal) (r : Request) → s ≡ bytes r → Proper r → Answered s x → x ≡ Ok (counts_of r)
answered_whole s x r e P A = answered_unique s x (Ok (counts_of r)) A (r, record { is_bytes = e; proper = P; counts = refl })
