-- Hexadecimal digits with zeros before them.
use Rattle.std.proofs.Common.{◌≡◌, ℕ, ◌-◌, ◌^◌, List, [], ◌++◌, false, length, replicate, ap, ◌∙◌, arith, append-nil}
use Rattle.std.specs.Fmt.{char_count, digits, format_spec, padded_integral}
use Rattle.naga_namer.specs.Bases.{code_digits}

pub padded_code : (c : ℕ) → padded_integral (format_spec 32 0 4 4 (2 ^ 64 - 1)) false [] (digits 16 false c) ≡ code_digits c
unfolding padded_integral char_count
padded_code c =
    let ds : List ℕ = digits 16 false c in
    let len : 4 - length ds - 0 - 0 ≡ 4 - length ds = omega arith in
    ap (λ (n : ℕ). replicate n 48 ++ (ds ++ [])) len ∙ ap (λ (tail : List ℕ). replicate (4 - length ds) 48 ++ tail) (append-nil ds)
