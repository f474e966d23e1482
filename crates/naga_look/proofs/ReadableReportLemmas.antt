-- A report is readable.
use Rattle.std.proofs.Common.{inl, inr, refl, subst, sym, ℕ, List, [], ◌∷◌, ◌++◌, Bool}
use Rattle.std.proofs.lemmas.Bool.{cond_both}
use Rattle.std.specs.Prelude.{◌==◌, ◌||◌, codes, flat_map}
use Rattle.std.specs.List.{AllZip}
use Rattle.naga_text.specs.Escapes.{is_plain}
use Rattle.naga_text.specs.Readable.{IsLine, IsReadable}
use Rattle.naga_text.proofs.ReadableEscapesLemmas.{decimal-plain}
use Rattle.naga_text.proofs.SpellsLemmas.{IsAsciiPassing, IsReadable-plain, Spells-after, Spells-append, Spells-ascii, Spells-nil}
use Rattle.naga_ir.specs.declared.module.Module as the_module
use Rattle.naga_typing.specs.Joined.{AreJoined}
use Rattle.naga_typing.specs.declared.invalid_types.TypeFault.{TypeFault}
use Rattle.naga_typing.specs.declared.invalid_types.ValueFault.{ValueFault}
use Rattle.naga_look.specs.Accesses.{accesses_line, misfits_of}
use Rattle.naga_look.specs.DeclarationLines.{IsDeclarationLine}
use Rattle.naga_look.specs.Layouts.{IsLayoutNote}
use Rattle.naga_look.specs.Report.{AreFaults, AreFunctionLines, Headed, IsBodyLine, IsEmitLine, IsTypeLine, headed_bodies, limit_of, lines_or_none, notes_of}
use Rattle.naga_look.specs.SummaryText.{count_line, counted_lines, declared_lines, summary_lines, use_line, used_lines}
use Rattle.naga_look.specs.declared.shown.Extent.{Extent}
use Rattle.naga_look.specs.declared.summary.Summary.{Summary}
use Rattle.naga_look.specs.declared.summary.counts.Counts.{Counts}
use Rattle.naga_look.proofs.ReadableNotesLemmas.{notes_of-readable}

-- ---- the summary

count_line-readable : (name : List ℕ) → IsAsciiPassing (λ c. (c == 10) || is_plain c) name → (n : ℕ) → IsReadable (count_line name n)
count_line-readable name pass n =
    cond_both (n == 0) _ _ IsReadable (λ e. Spells-nil)
    (λ e. Spells-after name pass (Spells-after (codes ": ") refl (Spells-append (IsReadable-plain (decimal-plain n)) (Spells-ascii (codes "\n") refl))))

use_line-readable : (name : List ℕ) → IsAsciiPassing (λ c. (c == 10) || is_plain c) name → (is : Bool) → IsReadable (use_line name is)
use_line-readable name pass is =
    cond_both is _ _ IsReadable (λ e. Spells-after (codes "uses ") refl (Spells-after name pass (Spells-ascii (codes "\n") refl))) (λ e. Spells-nil)

declared_lines-readable : (summary : Summary) → IsReadable (declared_lines summary)
declared_lines-readable summary =
    Spells-append (count_line-readable (codes "types") refl summary.types)
    (Spells-append (count_line-readable (codes "functions") refl summary.functions) (count_line-readable (codes "entry points") refl summary.entry_points))

counted_lines-readable : (counts : Counts) → IsReadable (counted_lines counts)
counted_lines-readable counts =
    Spells-append (count_line-readable (codes "statements") refl counts.statements)
    (Spells-append (count_line-readable (codes "missing returns") refl counts.open_tails) (count_line-readable (codes "missing returns (naga's rule)") refl counts.open_tails_old))

used_lines-readable : (summary : Summary) → IsReadable (used_lines summary)
used_lines-readable summary =
    Spells-append (use_line-readable (codes "ray pipelines") refl summary.ray_pipelines)
    (Spells-append (use_line-readable (codes "ray queries") refl summary.ray_queries) (use_line-readable (codes "mesh shaders") refl summary.mesh_shaders))

summary_lines-readable : (summary : Summary) → IsReadable (summary_lines summary)
summary_lines-readable summary =
    Spells-append (declared_lines-readable summary) (Spells-append (counted_lines-readable summary.counts) (used_lines-readable summary))

-- ---- the lines of declarations and of functions

IsLine-readable : (line : List ℕ) → IsLine line → IsReadable line
IsLine-readable line is = subst IsReadable (sym is.2) (Spells-append (IsReadable-plain is.1) (Spells-ascii (codes "\n") refl))

IsDeclarationLine-readable : (found : ValueFault) (line : List ℕ) → IsDeclarationLine found line → IsReadable line
IsDeclarationLine-readable found line is = IsLine-readable line is.0

IsBodyLine-readable : (headed : Headed) (line : List ℕ) → IsBodyLine headed line → IsReadable line
IsBodyLine-readable headed line is = elim is [
  | inl passed ↦ subst IsReadable (sym passed.1) Spells-nil
  | inr failed ↦ IsLine-readable line failed.1
]

IsTypeLine-readable : (headed : Headed) (found : TypeFault) (line : List ℕ) → IsTypeLine headed found line → IsReadable line
IsTypeLine-readable headed found line is = IsLine-readable line is.0

IsEmitLine-readable : (headed : Headed) (line : List ℕ) → IsEmitLine headed line → IsReadable line
IsEmitLine-readable headed line is = elim is [
  | inl none ↦ subst IsReadable (sym none.1) Spells-nil
  | inr lacks ↦ IsLine-readable line lacks.1
]

module _ {X : Type 0} (IsLineOf : X → List ℕ → Type 0) (readable : (one : X) (line : List ℕ) → IsLineOf one line → IsReadable line) where
  lines-readable : (all : List X) (lines : List (List ℕ)) → AllZip IsLineOf all lines → IsReadable (flat_map (λ (line : List ℕ). line) lines)
  lines-readable [] [] zip = Spells-nil
  lines-readable [] (line ∷ lines) zip = absurd zip
  lines-readable (one ∷ all) [] zip = absurd zip
  lines-readable (one ∷ all) (line ∷ lines) zip = Spells-append (readable one line zip.0) (lines-readable all lines zip.1)

  AreJoined-readable : (all : List X) (text : List ℕ) → AreJoined IsLineOf all text → IsReadable text
  AreJoined-readable all text are = subst IsReadable (sym are.are) (lines-readable all are.lists are.each)

AreFunctionLines-readable : (whole : the_module.Module) (limit : ℕ) (headed : Headed) (text : List ℕ) → AreFunctionLines whole limit headed text → IsReadable text
AreFunctionLines-readable whole limit headed text are =
    subst IsReadable (sym are.joined)
    (Spells-append (IsBodyLine-readable headed are.body are.of_body)
    (AreJoined-readable (IsTypeLine headed) (IsTypeLine-readable headed) are.of_types.0 are.types are.of_types.2))

lines_or_none-readable : (faults : List ℕ) → IsReadable faults → IsReadable (lines_or_none faults)
lines_or_none-readable [] readable = Spells-ascii (codes "no faults\n") refl
lines_or_none-readable (byte ∷ bytes) readable = readable

AreFaults-readable : (whole : the_module.Module) (extent : Extent) (text : List ℕ) → AreFaults whole extent text → IsReadable text
AreFaults-readable whole extent text are =
    subst IsReadable (sym are.joined)
    (Spells-append (AreJoined-readable IsDeclarationLine IsDeclarationLine-readable are.of_declarations.0 are.declared are.of_declarations.2)
    (AreJoined-readable (AreFunctionLines whole (limit_of extent)) (AreFunctionLines-readable whole (limit_of extent)) (headed_bodies whole) are.faults are.of_functions))

IsLayoutNote-readable : (whole : the_module.Module) (line : List ℕ) → IsLayoutNote whole line → IsReadable line
IsLayoutNote-readable whole line is = elim is [
  | inl fits ↦ subst IsReadable (sym fits.1) Spells-nil
  | inr fails ↦ IsLine-readable line fails.3.0
]

-- a report
pub IsReport-readable : (whole : the_module.Module) (extent : Extent) (faults emits layout : List ℕ) (summary : Summary)
    → AreFaults whole extent faults → AreJoined IsEmitLine (headed_bodies whole) emits → IsLayoutNote whole layout
    → IsReadable (lines_or_none faults ++ (summary_lines summary ++ (accesses_line whole ++ (emits ++ (layout ++ notes_of whole (limit_of extent))))))
IsReport-readable whole extent faults emits layout summary fail lack note =
    Spells-append (lines_or_none-readable faults (AreFaults-readable whole extent faults fail))
    (Spells-append (summary_lines-readable summary)
    (Spells-append (count_line-readable (codes "accesses that may be out of bounds") refl (misfits_of whole))
    (Spells-append (AreJoined-readable IsEmitLine IsEmitLine-readable (headed_bodies whole) emits lack)
    (Spells-append (IsLayoutNote-readable whole layout note) (notes_of-readable whole (limit_of extent))))))
