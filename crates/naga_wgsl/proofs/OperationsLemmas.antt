-- The texts of operands, one more at a time.
use Rattle.std.proofs.Common.{◌≡◌, ◌∙◌, ap, sym, refl, ℕ, ◌+◌, ◌≤◌, List, ◌++◌, Some, Result, Ok, Err, append_assoc, append-nil, codes, drop, length}
use Rattle.std.specs.List.{slice_get}
use Rattle.naga_layouter.proofs.LayingLemmas.{drop-found, drop-past}
use Rattle.naga_wgsl.specs.Operations.{followed, operand_text, operands_text}
use Rattle.naga_wgsl.specs.WriteError.{Attempts}
use Rattle.naga_wgsl.specs.declared.write_error.Cause.{Cause}

pub followed-assoc : (a b c : Result (List ℕ) Cause) → followed (followed a b) c ≡ followed a (followed b c)
followed-assoc (Ok a) (Ok b) (Ok c) = ap Ok (append_assoc a b c)
followed-assoc (Ok a) (Ok b) (Err cause) = refl
followed-assoc (Ok a) (Err cause) c = refl
followed-assoc (Err cause) b c = refl

module _ (known : List (Result (List ℕ) Cause)) (operands : List ℕ) where
  -- the text of the next operand comes behind those before it
  pub operands-more : (all : Result (List ℕ) Cause) (done before : List ℕ) (i operand : ℕ) (text : List ℕ) → slice_get operands i ≡ Some operand
      → operand_text known before operand ≡ Ok text → all ≡ followed (Ok done) (operands_text known before (drop i operands))
      → all ≡ followed (Ok (done ++ text)) (operands_text known (codes ", ") (drop (i + 1) operands))
  operands-more all done before i operand text here is whole =
      let rest : Result (List ℕ) Cause = operands_text known (codes ", ") (drop (i + 1) operands) in
      whole
      ∙ ap (λ (list : List ℕ). followed (Ok done) (operands_text known before list)) (drop-found operands i operand here)
      ∙ ap (λ (t : Result (List ℕ) Cause). followed (Ok done) (followed t rest)) is
      ∙ sym (followed-assoc (Ok done) (Ok text) rest)

  -- there is none, if the next operand has none
  pub operands-lack : (all : Result (List ℕ) Cause) (done before : List ℕ) (i operand : ℕ) (cause : Cause) → slice_get operands i ≡ Some operand
      → operand_text known before operand ≡ Err cause → all ≡ followed (Ok done) (operands_text known before (drop i operands))
      → all ≡ Err cause
  operands-lack all done before i operand cause here is whole =
      whole
      ∙ ap (λ (list : List ℕ). followed (Ok done) (operands_text known before list)) (drop-found operands i operand here)
      ∙ ap (λ (t : Result (List ℕ) Cause). followed (Ok done) (followed t (operands_text known (codes ", ") (drop (i + 1) operands)))) is

  -- no operand is left
  pub operands-end : (all : Result (List ℕ) Cause) (old new done before : List ℕ) (i : ℕ) → length operands ≤ i
      → all ≡ followed (Ok done) (operands_text known before (drop i operands)) → new ≡ old ++ done
      → Attempts {A = Unit {0}} all old new (Ok tt)
  operands-end all old new done before i past whole appended = record {
    written = (
      done,
      whole
          ∙ ap (λ (list : List ℕ). followed (Ok done) (operands_text known before list)) (drop-past operands i past)
          ∙ ap Ok (append-nil done),
      appended,
    );
    stopped = tt;
  }
