use Rattle.std.proofs.Common.{◌≡◌, ◌∙◌, ap, rules, arith, length, subst, sym, ◌++◌, ◌∷◌, [], false, None, is_some}
use Rattle.naga_arena.specs.Arena.{handle_of}
use Rattle.naga_arena.specs.Span.{undefined}
use Rattle.naga_ir.specs.Types.{type_of}
use Rattle.naga_ir.specs.contracts.types.TypePartialEq.TheImpl as type_eq
use Rattle.naga_ir.proofs.TypeOfLemmas.{type_of-decides}
use Rattle.naga_json.specs.Arenas.{arena_in, arena_value}
use Rattle.naga_json.specs.Types.{type_codec}
use Rattle.naga_json_types.specs.Arenas.{AreDistinct}
use Rattle.naga_json_types.proofs.DistinctLemmas.{AreDistinct-push, IfNone-at, missing}
use Rattle.naga_json_types.proofs.TakesArenasLemmas.{short-inserted, takes_arena, takes_more_values}
use Rattle.naga_json_tokens.proofs.TakesHolderLemmas.{takes_field}
use Rattle.naga_json_tokens.proofs.TakesListsLemmas.{takes_shorter}
use Rattle.naga_json_types.proofs.taken.take_types_field.Goals as goal

pub items-smaller : goal.items-smaller
items-smaller c =
    let unmoved : c.take_end_array.new.self ≡ c.items.reader = search rules in
    let shorter = takes_shorter _ _ _ _ c.in_ok-ty.ensures in
    omega (arith, ap length unmoved)

pub items-preserved : goal.items-preserved
items-preserved c =
    let arena = c.items.types in
    let ty = c.in_ok-ty.ty in
    let unmoved : c.take_end_array.new.self ≡ c.items.reader = search rules in
    let absent : is_some c.get.result ≡ false = sym c.is_some.ensures ∙ c.if-is_some.false in
    let none : handle_of type_eq.ghosts.eq arena ty ≡ None = sym c.get.ensures ∙ missing c.get.result absent in
    let grown : c.insert.new.self ≡ arena ++ (ty, undefined) ∷ [] =
    IfNone-at (handle_of type_eq.ghosts.eq arena ty) (c.insert.new.self ≡ arena ++ (ty, undefined) ∷ []) none c.in-Ok.ensures.appended in record {
      taken =
          takes_more_values type_of type_codec.decode arena c.insert.new.self ty c.take_begin_list.new.reader c.take_end_array.new.self c.take_type.new.reader
          (rw unmoved c.items.invariant.taken) c.in_ok-ty.ensures grown;
      distinct =
          subst (λ entries. AreDistinct (arena_value type_of entries)) (sym grown)
          (AreDistinct-push type_eq.ghosts.eq type_of type_of-decides arena ty undefined none c.items.invariant.distinct);
      short = short-inserted arena c.insert.new.self ty undefined c.in-Ok.field-0 grown (λ full. c.in-Ok.ensures.full.1 (full, none)) c.items.invariant.short;
    }

pub returns-clause-taken : goal.returns-clause-taken
returns-clause-taken c =
    let values = arena_value type_of c.items.types in
    takes_field c.args.name.now (arena_in type_codec.decode) values c.args.reader.now c.take_key.new.reader c.take_end_array.new.self c.in_ok-take_key.ensures
    (takes_arena type_of type_codec.decode c.items.types c.take_key.new.reader c.take_begin_list.new.reader c.items.reader c.take_end_array.new.self
    c.in_ok-take_begin_list.ensures c.items.invariant.taken (search rules) c.items.invariant.short)
