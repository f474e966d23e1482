-- A module that is compared with itself gets no marks.
use Rattle.std.proofs.Common.{◌≡◌, ◌∙◌, ◌+◌, ℕ, Some, None, ap, refl, sym, List, [], ◌∷◌, ◌++◌, length, codes, append_assoc, length-append, arith}
use Rattle.std.specs.Prelude.{Option, flat_map, if◌then◌else◌, option_map, slice_get, string_bytes}
use Rattle.std.specs.List.{enumerate_from}
use Rattle.naga_arena.specs.Arena.{value_at, values}
use Rattle.naga_ir.proofs.TypeOfLemmas.{name-decides}
use Rattle.naga_ir.specs.Tree.{Tree}
use Rattle.naga_ir.specs.View.{tree_of}
use Rattle.naga_ir.specs.declared.module.EntryPoint as entry_point
use Rattle.naga_ir.specs.declared.module.Function as function
use Rattle.naga_ir.specs.declared.module.Module as the_module
use Rattle.naga_text.specs.Blocks.{tree_text}
use Rattle.naga_text.specs.Module.{body_before, body_if_named, braced, declaration_lines, declared_text, entry_body, entry_body_before, entry_point_lines, expression_line, function_lines, global_expression_line, module_text, module_text_compared, signature_lines, stage_text}
use Rattle.naga_text.specs.Resolved.{types_in}
use Rattle.naga_text.specs.Words.{number, quoted}
use Rattle.naga_valid.specs.ElementNames.{text_of}
use Rattle.naga_text.proofs.ComparedLemmas.{slice_get-seam, tree_text-itself}

-- two texts of each element of a list, with its position, that are the same
flat_map-same : {X : Type 0} (f g : ℕ × X → List ℕ) (whole earlier xs : List X) (n : ℕ) → ((i : ℕ) (x : X) → slice_get whole i ≡ Some x → f (i, x) ≡ g (i, x)) → n ≡ length earlier → whole ≡ earlier ++ xs → flat_map f (enumerate_from n xs) ≡ flat_map g (enumerate_from n xs)
flat_map-same f g whole earlier [] n each is split = refl
flat_map-same f g whole earlier (x ∷ xs) n each is split =
    let found = ap (slice_get whole) is ∙ ap (λ ys. slice_get ys (length earlier)) split ∙ slice_get-seam earlier x xs in
    let here = each n x found in
    let next : n + 1 ≡ length (earlier ++ x ∷ []) = omega (arith, is, length-append earlier (x ∷ [])) in
    let rest = flat_map-same f g whole (earlier ++ x ∷ []) xs (n + 1) each next (split ∙ sym (append_assoc earlier (x ∷ []) xs)) in
    λ i. here i ++ rest i

braced-itself : (owner : the_module.Module) (declared : function.Function) (old : Option Tree) → old ≡ Some (tree_of declared.body) → braced old owner declared ≡ braced None owner declared
braced-itself owner declared old is =
    let same = ap (λ o. tree_text (codes "    ") o (tree_of declared.body)) is ∙ tree_text-itself (codes "    ") (tree_of declared.body) in
    λ i. codes " {\n" ++ ((signature_lines declared ++ (flat_map (expression_line owner.types (types_in owner declared) declared) (enumerate_from 0 (values declared.expressions)) ++ same i)) ++ codes "}\n")

body_if_named-itself : (declared : function.Function) → body_if_named declared.name (Some declared) ≡ Some (tree_of declared.body)
body_if_named-itself declared =
    ap (λ same. if same then Some (tree_of declared.body) else None) ((name-decides declared.name declared.name).1 refl)

module _ (whole : the_module.Module) where
  function-itself : (index : ℕ) (declared : function.Function) → value_at whole.functions index ≡ Some declared → function_lines (Some whole) whole (index, declared) ≡ function_lines None whole (index, declared)
  function-itself index declared found =
      let body = ap (body_if_named declared.name) found ∙ body_if_named-itself declared in
      ap (λ text. declared_text (codes "function") index (text_of declared.name) ++ text) (braced-itself whole declared (body_before (Some whole) (index, declared)) body)

  entry_point-itself : (position : ℕ) (declared : entry_point.EntryPoint) → slice_get whole.entry_points.items position ≡ Some declared → entry_point_lines (Some whole) whole (position, declared) ≡ entry_point_lines None whole (position, declared)
  entry_point-itself position declared found =
      let same = braced-itself whole declared.function (entry_body_before (Some whole) position) (ap (option_map entry_body) found) in
      λ i. (codes "entry point" ++ (number position ++ quoted (string_bytes declared.name))) ++ (stage_text declared ++ same i)

  -- the text is that without an old module
  pub module_text_compared-itself : module_text_compared whole whole ≡ module_text whole
  module_text_compared-itself =
      let functions = flat_map-same (function_lines (Some whole) whole) (function_lines None whole) (values whole.functions) [] (values whole.functions) 0 function-itself refl refl in
      let entry_points = flat_map-same (entry_point_lines (Some whole) whole) (entry_point_lines None whole) whole.entry_points.items [] whole.entry_points.items 0 entry_point-itself refl refl in
      λ i. declaration_lines whole ++ (flat_map global_expression_line (enumerate_from 0 (values whole.global_expressions)) ++ (functions i ++ entry_points i))
