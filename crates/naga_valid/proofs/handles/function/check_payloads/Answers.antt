use Rattle.std.specs.Option.{option_map}
use Rattle.std.specs.Prelude.{option_to_list}
use Rattle.std.proofs.lemmas.List.Elements.{Contains-append_left}
use Rattle.naga_valid.specs.declared.reference.Reference.TheVariants as reference
use Rattle.naga_valid.proofs.FaultLemmas.{ChecksList-last}
use Rattle.naga_valid.proofs.handles.function.check_payloads.Goals as goal

pub returns-in-Err : goal.returns-in-Err
returns-in-Err c =
    let task = option_to_list (option_map reference.GlobalVariable c.args.entry_point.now.task_payload) in
    let ray = option_to_list (option_map reference.GlobalVariable c.args.entry_point.now.incoming_ray_payload) in
    let found = c.in-Err.ensures in
    (found.0, Contains-append_left task ray c.in-Err.fault.reference found.1, found.2)

pub returns : goal.returns
returns c =
    let task = option_to_list (option_map reference.GlobalVariable c.args.entry_point.now.task_payload) in
    let ray = option_to_list (option_map reference.GlobalVariable c.args.entry_point.now.incoming_ray_payload) in
    ChecksList-last c.args.limits.now task ray c.args.place.now c.check_part-2.result c.in_default.ensures c.check_part-2.ensures
