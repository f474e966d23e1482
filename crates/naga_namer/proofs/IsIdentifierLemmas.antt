-- A name is an identifier.
use Rattle.std.proofs.Common.{◌≡◌, ℕ, zero, suc, ◌<◌, ◌≤◌, ◌^◌, List, [], ◌∷◌, ◌++◌, Bool, true, false, cond, refl, ap, arith}
use Rattle.std.specs.Fmt.{decimal}
use Rattle.naga_namer.specs.Bases.{last_or, underscore}
use Rattle.naga_namer.specs.Names.{Reserved, is_marked, name_of}
use Rattle.naga_namer.specs.Scopes.{IsIdentifier, MayFollow}
use Rattle.naga_namer.proofs.BaseOfLemmas.{IsFine}
use Rattle.naga_namer.proofs.BoolLemmas.{digit-word}
use Rattle.naga_namer.proofs.DistinctLemmas.{AllDigits, decimal-digits}
use Rattle.naga_namer.proofs.MayFollowLemmas.{may-append}

digits-may : (p : ℕ) (bytes : List ℕ) → AllDigits bytes → MayFollow p bytes
digits-may p [] all = tt
digits-may p (byte ∷ rest) all =
    let low : 48 ≤ byte = all.0 in
    let high : byte ≤ 57 = all.1 in
    (digit-word byte low high, λ e same. omega arith, digits-may byte rest all.2)

-- a base with something behind it that may follow
identifier-append : (base tail : List ℕ) → IsFine base → MayFollow (last_or 0 base) tail → (base ++ tail ≡ underscore ∷ [] → ⊥) → IsIdentifier (base ++ tail)
identifier-append [] tail fine may other = absurd (fine.is refl)
identifier-append (byte ∷ rest) tail fine may other = (fine.begins, other, may-append 0 (byte ∷ rest) tail fine.may may)

base-not : (base : List ℕ) → IsFine base → base ≡ underscore ∷ [] → ⊥
base-not base fine same = fine.is (ap (last_or underscore) same)

longer-not : (base tail : List ℕ) (byte : ℕ) → IsFine base → base ++ byte ∷ tail ≡ underscore ∷ [] → ⊥
longer-not [] tail byte fine same = absurd (fine.is refl)
longer-not (first ∷ []) tail byte fine same = cc
longer-not (first ∷ (next ∷ rest)) tail byte fine same = cc

last-other : (base : List ℕ) → IsFine base → last_or 0 base ≡ underscore → ⊥
last-other [] fine same = fine.is refl
last-other (byte ∷ rest) fine same = fine.is same

with-underscore : (base tail : List ℕ) → IsFine base → MayFollow underscore tail → IsIdentifier (base ++ underscore ∷ tail)
with-underscore base tail fine may =
    identifier-append base (underscore ∷ tail) fine
    (refl, λ e. absurd (last-other base fine e), may) (longer-not base tail underscore fine)

plain-identifier : (base : List ℕ) → IsFine base → IsIdentifier base
plain-identifier [] fine = absurd (fine.is refl)
plain-identifier (byte ∷ rest) fine = (fine.begins, base-not (byte ∷ rest) fine, fine.may)

identifier-zero : (b : Bool) (base : List ℕ) → IsFine base → IsIdentifier (cond b (base ++ underscore ∷ []) base)
identifier-zero true base fine = with-underscore base [] fine tt
identifier-zero false base fine = plain-identifier base fine

pub identifier : (reserved : Reserved) (base : List ℕ) (number : ℕ) → number < 2 ^ 64 → IsFine base → IsIdentifier (name_of reserved base number)
identifier reserved base zero small fine = identifier-zero (is_marked reserved base) base fine
identifier reserved base (suc before) small fine =
    with-underscore base (decimal (suc before)) fine (digits-may underscore (decimal (suc before)) (decimal-digits (suc before) small).all)
