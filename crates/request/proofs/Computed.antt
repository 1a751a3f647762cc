-- What a file is read as, by computing it.
-- Assumes nothing.
use mathlib.Core.Bool.{Bool, ◌&&◌, false, true}
use mathlib.Core.List.{List, [], ◌∷◌}
use mathlib.Core.Path.{◌≡◌, refl, subst, sym}
use Prim.Native.Nat.{suc, zero, ℕ}
use native.Mathlib.Omega.{arith}
use lib.Dec.{T, ltb, ltb→lt}
use Rattle.request.specs.declared.Counts.{Counts}
use Rattle.request.specs.declared.Refusal.{Refusal}
use Rattle.std.specs.Prelude.{Result, Ok, Err}
use Rattle.request.specs.File.{Bytes, Request, bytes}
use Rattle.request.specs.Outcome.{Answered}
use Rattle.request.specs.Proper.{Proper}
use Rattle.request.specs.Tables.{reading_of}
use Rattle.graph.proofs.Says.{both, everyb}
use Rattle.request.proofs.Answered.{answered, bytes_once}

-- a list of bytes, by test
bytes_tested : (s : List ℕ) → T (everyb (λ b. ltb b 256) s) → Bytes s
bytes_tested [] t i = omega arith
bytes_tested (b ∷ s) t zero = let h = (both (ltb b 256) (everyb (λ b. ltb b 256) s) t).0 in ltb→lt b 256 h
bytes_tested (b ∷ s) t (suc i) = bytes_tested s (both (ltb b 256) (everyb (λ b. ltb b 256) s) t).1 i

-- what computing a file's reading gives
pub read_as : (s : List ℕ) (r : Result Counts Refusal) → T (everyb (λ b. ltb b 256) s) → r ≡ reading_of s → Answered s r
read_as s r t e = answered s r (bytes_tested s t) e

abbrev wholeb : Result Counts Refusal → Bool
wholeb (Ok cs) = true
wholeb (Err e) = false

-- the bytes of a request are read as a whole
abbrev pub readb : Request → Bool
readb q = everyb (λ b. ltb b 256) (bytes q) && wholeb (reading_of (bytes q))

-- then the request is proper
pub read_proper : (q : Request) → T (readb q) → Proper q
read_proper q t =
    let h = both (everyb (λ b. ltb b 256) (bytes q)) (wholeb (reading_of (bytes q))) t in
    go (reading_of (bytes q)) h.1 (read_as (bytes q) (reading_of (bytes q)) h.0 refl)
  where
    go : (r : Result Counts Refusal) → T (wholeb r) → Answered (bytes q) r → Proper q
    go (Ok cs) w (k, H) = subst Proper (bytes_once k q (sym H.is_bytes)) H.proper
    go (Err e) w A = absurd w
