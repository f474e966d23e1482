-- Notes are readable.
use Rattle.std.proofs.Common.{refl, sym, subst, ℕ, ◌+◌, List, [], ◌∷◌, ◌++◌, Bool, true, false, map, take}
use Rattle.std.proofs.lemmas.List.Elements.{All-append, All-cons, All-head, All-nil, All-tail, All-take}
use Rattle.std.proofs.lemmas.List.Concat.{flat_map-append}
use Rattle.std.specs.Fmt.{decimal}
use Rattle.std.specs.List.{enumerate_from}
use Rattle.std.specs.Prelude.{All, codes, flat_map}
use Rattle.naga_arena.specs.Arena.{values}
use Rattle.naga_bounds.specs.Messages.{cause_text, unfit_access_text}
use Rattle.naga_bounds.specs.Modules.{typed_in}
use Rattle.naga_bounds.specs.Unfit.{unfit_accesses}
use Rattle.naga_bounds.specs.declared.cause.Cause.{Cause}
use Rattle.naga_bounds.specs.declared.cause.Cause.TheVariants as cause
use Rattle.naga_bounds.specs.declared.invalid_access.UnfitAccess.{UnfitAccess}
use Rattle.naga_flow.specs.Paths.{behind, size}
use Rattle.naga_ir.specs.Tree.{Tree, Node, Cases, empty, push, plain, nested, branch, switch, loop, jump, no_cases, case}
use Rattle.naga_ir.specs.View.{tree_of}
use Rattle.naga_ir.specs.declared.module.Function as function
use Rattle.naga_ir.specs.declared.module.Module as the_module
use Rattle.naga_proc.specs.Closing.{follows_switch}
use Rattle.naga_proc.specs.declared.terminator.rule.Rule.{Rule}
use Rattle.naga_proc.specs.declared.terminator.rule.Rule.TheVariants.{New}
use Rattle.naga_text.specs.Readable.{IsPlain, IsReadable}
use Rattle.naga_text.proofs.ReadableEscapesLemmas.{decimal-plain}
use Rattle.naga_text.proofs.SpellsLemmas.{IsReadable-plain, Spells-after, Spells-append, Spells-ascii, Spells-nil}
use Rattle.naga_look.specs.Notes.{access_lines, missing_lines, notes_in}
use Rattle.naga_look.specs.OpenEnds.{case_name, end_if, ends_at, ends_in_cases, ends_unless, inner_path, missing_returns, open_ends}
use Rattle.naga_look.specs.Report.{Headed, headed_entry_point, headed_entry_points, headed_function, headed_functions, notes_of, notes_on}
use Rattle.naga_look.proofs.ReportLemmas.{headed_entry_point-plain, headed_function-plain}

-- ---- the paths of ends

abbrev ArePlain : List (List ℕ) → Type 0
ArePlain = All IsPlain

one-plain : ArePlain ([] ∷ [])
one-plain = All-cons IsPlain [] [] Spells-nil (All-nil IsPlain)

behind-plain : (first : List ℕ) → IsPlain first → (paths : List (List ℕ)) → ArePlain paths → ArePlain (behind first paths)
behind-plain first shows [] all = All-nil IsPlain
behind-plain first shows (path ∷ paths) all =
    All-cons IsPlain (first ++ path) (behind first paths)
    (Spells-append shows (All-head IsPlain path paths all))
    (behind-plain first shows paths (All-tail IsPlain path paths all))

end_if-plain : (is : Bool) → ArePlain (end_if is)
end_if-plain true = one-plain
end_if-plain false = All-nil IsPlain

ends_unless-plain : (falls_through : Bool) (ends : List (List ℕ)) → ArePlain ends → ArePlain (ends_unless falls_through ends)
ends_unless-plain true ends all = All-nil IsPlain
ends_unless-plain false ends all = all

inner_path-plain : (position : ℕ) (name : List ℕ) → IsPlain name → IsPlain (inner_path position name)
inner_path-plain position name shows =
    Spells-append (Spells-after (codes "[") refl (Spells-append (decimal-plain position) (Spells-ascii (codes "]") refl))) shows

case_name-plain : (number : ℕ) → IsPlain (case_name number)
case_name-plain number = Spells-after (codes ".cases[") refl (Spells-append (decimal-plain number) (Spells-ascii (codes "].body") refl))

module _ (rule : Rule) where
  mutual
    open_ends-plain : (block : Tree) → ArePlain (open_ends rule block)
    open_ends-plain empty = one-plain
    open_ends-plain (push front last span) = ends_at-plain (size front) last

    ends_at-plain : (position : ℕ) (last : Node) → ArePlain (ends_at rule position last)
    ends_at-plain position (plain what) = one-plain
    ends_at-plain position (nested inner) =
        behind-plain (inner_path position (codes ".block")) (inner_path-plain position (codes ".block") (Spells-ascii (codes ".block") refl)) (open_ends rule inner) (open_ends-plain inner)
    ends_at-plain position (branch condition accept reject) =
        All-append IsPlain (behind (inner_path position (codes ".accept")) (open_ends rule accept)) (behind (inner_path position (codes ".reject")) (open_ends rule reject))
        (behind-plain (inner_path position (codes ".accept")) (inner_path-plain position (codes ".accept") (Spells-ascii (codes ".accept") refl)) (open_ends rule accept) (open_ends-plain accept))
        (behind-plain (inner_path position (codes ".reject")) (inner_path-plain position (codes ".reject") (Spells-ascii (codes ".reject") refl)) (open_ends rule reject) (open_ends-plain reject))
    ends_at-plain position (switch selector cases) =
        All-append IsPlain (ends_in_cases rule position 0 cases) (end_if (follows_switch rule cases))
        (ends_in_cases-plain position 0 cases) (end_if-plain (follows_switch rule cases))
    ends_at-plain position (loop body continuing break_if) = one-plain
    ends_at-plain position (jump to) = All-nil IsPlain

    ends_in_cases-plain : (position number : ℕ) (cases : Cases) → ArePlain (ends_in_cases rule position number cases)
    ends_in_cases-plain position number no_cases = All-nil IsPlain
    ends_in_cases-plain position number (case value body falls_through others) =
        All-append IsPlain (ends_unless falls_through (behind (inner_path position (case_name number)) (open_ends rule body))) (ends_in_cases rule position (number + 1) others)
        (ends_unless-plain falls_through (behind (inner_path position (case_name number)) (open_ends rule body))
        (behind-plain (inner_path position (case_name number)) (inner_path-plain position (case_name number) (case_name-plain number)) (open_ends rule body) (open_ends-plain body)))
        (ends_in_cases-plain position (number + 1) others)

-- ---- the lines

missing_lines-readable : (head : List ℕ) → IsPlain head → (paths : List (List ℕ)) → ArePlain paths → IsReadable (missing_lines head paths)
missing_lines-readable head shows [] all = Spells-nil
missing_lines-readable head shows (path ∷ paths) all =
    Spells-append
    (Spells-after (codes "note: ") refl (Spells-append (IsReadable-plain shows) (Spells-after (codes ": ") refl
    (Spells-append (IsReadable-plain (Spells-append (All-head IsPlain path paths all) (Spells-ascii (codes ": a return is missing at the end") refl)))
    (Spells-ascii (codes "\n") refl)))))
    (missing_lines-readable head shows paths (All-tail IsPlain path paths all))

missing_returns-plain : (limit : ℕ) (whole : function.Function) → ArePlain (missing_returns limit whole)
missing_returns-plain limit whole =
    let ends = open_ends New (tree_of whole.body) in
    behind-plain (codes "body") (Spells-ascii (codes "body") refl) (take limit ends) (All-take IsPlain limit ends (open_ends-plain New (tree_of whole.body)))

cause_text-plain : (why : Cause) → IsPlain (cause_text why)
cause_text-plain cause.NoType = Spells-ascii (codes "has a base whose type is not known") refl
cause_text-plain cause.NoLength = Spells-ascii (codes "has a base whose length is not known") refl
cause_text-plain (cause.Part index) =
    Spells-after (codes "has the index ") refl (Spells-append (decimal-plain index) (Spells-ascii (codes ", which may be out of bounds") refl))
cause_text-plain (cause.Index index) =
    Spells-after (codes "has the index of expression ") refl (Spells-append (decimal-plain index) (Spells-ascii (codes ", which may be out of bounds") refl))

unfit_access_text-plain : (unfit : UnfitAccess) → IsPlain (unfit_access_text unfit)
unfit_access_text-plain unfit =
    Spells-after (codes "expression ") refl (Spells-append (decimal-plain unfit.expression) (Spells-after (codes " ") refl (cause_text-plain unfit.cause)))

access_lines-readable : (head : List ℕ) → IsPlain head → (all : List UnfitAccess) → IsReadable (access_lines head all)
access_lines-readable head shows [] = Spells-nil
access_lines-readable head shows (unfit ∷ all) =
    Spells-append
    (Spells-after (codes "note: ") refl (Spells-append (IsReadable-plain shows) (Spells-after (codes ": ") refl
    (Spells-append (IsReadable-plain (unfit_access_text-plain unfit)) (Spells-ascii (codes "\n") refl)))))
    (access_lines-readable head shows all)

-- ---- all notes

module _ (whole : the_module.Module) (limit : ℕ) where
  notes_in-readable : (head : List ℕ) → IsPlain head → (inside : function.Function) → IsReadable (notes_in whole limit head inside)
  notes_in-readable head shows inside =
      Spells-append (missing_lines-readable head shows (missing_returns limit inside) (missing_returns-plain limit inside))
      (access_lines-readable head shows (take limit (unfit_accesses (typed_in whole inside))))

  module _ {X : Type 0} (f : ℕ × X → Headed) (shows : (entry : ℕ × X) → IsPlain (f entry).head) where
    numbered-readable : (k : ℕ) (xs : List X) → IsReadable (flat_map (notes_on whole limit) (map f (enumerate_from k xs)))
    numbered-readable k [] = Spells-nil
    numbered-readable k (x ∷ xs) =
        Spells-append (notes_in-readable (f (k, x)).head (shows (k, x)) (f (k, x)).whole) (numbered-readable (k + 1) xs)

  pub notes_of-readable : IsReadable (notes_of whole limit)
  notes_of-readable =
      subst IsReadable (sym (flat_map-append (notes_on whole limit) (headed_functions (values whole.functions)) (headed_entry_points whole.entry_points.items)))
      (Spells-append (numbered-readable headed_function headed_function-plain 0 (values whole.functions))
      (numbered-readable headed_entry_point headed_entry_point-plain 0 whole.entry_points.items))
