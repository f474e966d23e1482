use Rattle.std.proofs.Common.{◌≡◌, ◌∙◌, sym, ap, subst, arith, ◌+◌, ◌<◌, true, false, [], ◌∷◌, ◌++◌, drop, get_or, take, Some, None, is_some, length, length-append, append_assoc}
use Rattle.std.proofs.lemmas.List.{length-map, map-append}
use Rattle.json.specs.Value.{value_view, items_view}
use Rattle.naga_arena.specs.Arena.{handle_of}
use Rattle.naga_arena.specs.Span.{undefined}
use Rattle.naga_ir.specs.Types.{type_of}
use Rattle.naga_ir.specs.contracts.types.TypePartialEq.TheImpl as type_eq
use Rattle.naga_ir.proofs.TypeOfLemmas.{type_of-decides}
use Rattle.naga_json.specs.Numbers.{◌>>=◌}
use Rattle.naga_json_types.specs.Arenas.{AreDistinct}
use Rattle.naga_json.specs.Arenas.{arena_value, without_span}
use Rattle.naga_json.specs.Lists.{each_of}
use Rattle.naga_json.specs.Types.{type_codec}
use Rattle.naga_json_types.proofs.ArenasLemmas.{without_span-Some, without_span-None}
use Rattle.naga_json_types.proofs.ListsLemmas.{each_of-turn, each_of-cut}
use Rattle.naga_json_types.proofs.DistinctLemmas.{AreDistinct-push, AreDistinct-repeated, reads_types-none, rest_of, take-next, take-start, found, missing, IfNone-at}
use Rattle.naga_json_types.proofs.arenas.read_distinct_types.Goals as goal

pub returns-in_err-ty : goal.returns-in_err-ty
returns-in_err-ty c =
    let items = c.args.items.now.items in
    let item = c.item-item.result in
    let index = c.loop-item.item-index in
    let within : index < length items = omega arith in
    let is : item ≡ get_or items index item = c.item-item.is ∙ ap (λ l. get_or l index item) c.deref-item-items.ensures.value in
    reads_types-none c.from_residual.result c.in_err-ty.field-0.0 (each_of (without_span type_codec.decode) (items_view items)) c.from_residual.ensures.1 (
    λ other.
    each_of-cut (without_span type_codec.decode) value_view items index item within is (each_of (without_span type_codec.decode) (items_view items)) (arena_value type_of c.loop-item.types) c.loop-item.invariant.read
    (without_span-None type_codec.decode (value_view item) (c.in_err-ty.ensures other))
    )

pub returns-then-is_some : goal.returns-then-is_some
returns-then-is_some c =
    let items = c.args.items.now.items in
    let item = c.item-item.result in
    let index = c.loop-item.item-index in
    let within : index < length items = omega arith in
    let is : item ≡ get_or items index item = c.item-item.is ∙ ap (λ l. get_or l index item) c.deref-item-items.ensures.value in
    let arena = c.loop-item.types in
    let ty = c.in_ok-ty.ty in
    let present : is_some c.get.result ≡ true = sym c.is_some.ensures ∙ c.if-is_some.true in
    let at = found c.get.result present in
    let count = c.len.result in
    let same : length (arena_value type_of arena) ≡ length arena = length-map arena (λ entry. (type_of entry.0, entry.1)) in
    let size : count ≡ length (arena_value type_of arena) = omega (arith, same) in
    λ types meant.
    let start = arena_value type_of arena ++ (type_of ty, undefined) ∷ [] in
    let read = each_of-turn (without_span type_codec.decode) value_view items index item within is (each_of (without_span type_codec.decode) (items_view items)) (arena_value type_of arena) c.loop-item.invariant.read (type_of ty, undefined) (without_span-Some type_codec.decode (value_view item) (type_of ty) c.in_ok-ty.ensures) in
    let rest = rest_of (each_of (without_span type_codec.decode) (items_view items)) start (each_of (without_span type_codec.decode) (items_view (drop (index + 1) items))) read types meant in
    let whole = rest.1 ∙ append_assoc (arena_value type_of arena) ((type_of ty, undefined) ∷ []) rest.0 in
    let before = ap (take count) whole ∙ take-start (arena_value type_of arena) (type_of ty, undefined) rest.0 count size in
    let up_to = ap (take (count + 1)) whole ∙ take-next (arena_value type_of arena) (type_of ty, undefined) rest.0 count size in (
      subst (λ entries. AreDistinct entries) (sym before) c.loop-item.invariant.distinct,
      λ distinct. AreDistinct-repeated type_eq.ghosts.eq type_of type_of-decides arena ty at.0 undefined [] (sym c.get.ensures ∙ at.1) (subst (λ entries. AreDistinct entries) up_to distinct),
    )

pub loop-item-preserved : goal.loop-item-preserved
loop-item-preserved c =
    let items = c.args.items.now.items in
    let item = c.item-item.result in
    let index = c.loop-item.item-index in
    let within : index < length items = omega arith in
    let is : item ≡ get_or items index item = c.item-item.is ∙ ap (λ l. get_or l index item) c.deref-item-items.ensures.value in
    let arena = c.loop-item.types in
    let ty = c.in_ok-ty.ty in
    let absent : is_some c.get.result ≡ false = sym c.is_some.ensures ∙ c.if-is_some.false in
    let none : handle_of type_eq.ghosts.eq arena ty ≡ None = sym c.get.ensures ∙ missing c.get.result absent in
    let grown : c.insert.new.self ≡ arena ++ (ty, undefined) ∷ [] = IfNone-at (handle_of type_eq.ghosts.eq arena ty) (c.insert.new.self ≡ arena ++ (ty, undefined) ∷ []) none c.in_ok-insert.ensures.appended in
    let longer : arena_value type_of c.insert.new.self ≡ arena_value type_of arena ++ (type_of ty, undefined) ∷ [] = ap (arena_value type_of) grown ∙ map-append (λ entry. (type_of entry.0, entry.1)) arena ((ty, undefined) ∷ []) in
    let read = each_of-turn (without_span type_codec.decode) value_view items index item within is (each_of (without_span type_codec.decode) (items_view items)) (arena_value type_of arena) c.loop-item.invariant.read (type_of ty, undefined) (without_span-Some type_codec.decode (value_view item) (type_of ty) c.in_ok-ty.ensures) in
    let size : length c.insert.new.self ≡ index + 1 = omega (arith, ap length grown, length-append arena ((ty, undefined) ∷ [])) in
    record {
      read = read ∙ ap (λ start. each_of (without_span type_codec.decode) (items_view (drop (index + 1) items)) >>= λ rest. Some (start ++ rest)) (sym longer);
      distinct = subst (λ entries. AreDistinct (arena_value type_of entries)) (sym grown) (AreDistinct-push type_eq.ghosts.eq type_of type_of-decides arena ty undefined none c.loop-item.invariant.distinct);
      len = size;
    }
