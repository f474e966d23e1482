-- A label got a name, if its base did.
use Rattle.std.proofs.Common.{◌≡◌, ℕ, ◌+◌, ◌<◌, ◌^◌, List, cond, subst}
use Rattle.std.specs.Str.{bytes_eq}
use Rattle.naga_namer.specs.Bases.{base_of}
use Rattle.naga_namer.specs.Names.{Counts, GetsName, IsFirstFree, Reserved, name_of}

pub gets_name : (reserved : Reserved) (before after : Counts) (label base name : List ℕ) (start number : ℕ)
    → base ≡ base_of reserved.prefixes label → start ≡ before base → IsFirstFree reserved base start number
    → name ≡ name_of reserved base number → number + 1 < 2 ^ 64
    → ((other : List ℕ) → after other ≡ cond (bytes_eq base other) (number + 1) (before other))
    → GetsName reserved before label name after
gets_name reserved before after label base name start number same at free is small counted =
    let P : List ℕ → Type 0 = λ text. IsFirstFree reserved text (before text) number × (name ≡ name_of reserved text number)
    × ((other : List ℕ) → after other ≡ cond (bytes_eq text other) (number + 1) (before other)) in
    let Q : ℕ → Type 0 = λ n. IsFirstFree reserved base n number in
    let all : P (base_of reserved.prefixes label) = subst P same (subst Q at free, is, counted) in
    record { number = number; small = small; free = all.0; is = all.1; counted = all.2 }
