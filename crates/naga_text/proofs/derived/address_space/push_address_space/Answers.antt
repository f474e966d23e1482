-- Made by tests/derive from the declarations of naga_kinds and naga_ir.
use Rattle.naga_text.proofs.PiecesLemmas.{OnOk-variant}
use Rattle.naga_text.specs.derived.AddressSpace.{address_space_text}
use Rattle.naga_text.proofs.derived.address_space.push_address_space.Goals as goal

pub returns-in-Function : goal.returns-in-Function
returns-in-Function c = OnOk-variant address_space_text c.push.result c.args.text.now c.push.new.self c.args.address_space.now _ c.in-Function.is c.push.ensures

pub returns-in-Private : goal.returns-in-Private
returns-in-Private c = OnOk-variant address_space_text c.push-in-Private.result c.args.text.now c.push-in-Private.new.self c.args.address_space.now _ c.in-Private.is c.push-in-Private.ensures

pub returns-in-WorkGroup : goal.returns-in-WorkGroup
returns-in-WorkGroup c = OnOk-variant address_space_text c.push-in-WorkGroup.result c.args.text.now c.push-in-WorkGroup.new.self c.args.address_space.now _ c.in-WorkGroup.is c.push-in-WorkGroup.ensures

pub returns-in-Uniform : goal.returns-in-Uniform
returns-in-Uniform c = OnOk-variant address_space_text c.push-in-Uniform.result c.args.text.now c.push-in-Uniform.new.self c.args.address_space.now _ c.in-Uniform.is c.push-in-Uniform.ensures

pub returns-in-Storage : goal.returns-in-Storage
returns-in-Storage c = OnOk-variant address_space_text c.push_address_space_storage.result c.args.text.now c.push_address_space_storage.new.text c.args.address_space.now _ c.in-Storage.is c.push_address_space_storage.ensures

pub returns-in-Handle : goal.returns-in-Handle
returns-in-Handle c = OnOk-variant address_space_text c.push-in-Handle.result c.args.text.now c.push-in-Handle.new.self c.args.address_space.now _ c.in-Handle.is c.push-in-Handle.ensures

pub returns-in-Immediate : goal.returns-in-Immediate
returns-in-Immediate c = OnOk-variant address_space_text c.push-in-Immediate.result c.args.text.now c.push-in-Immediate.new.self c.args.address_space.now _ c.in-Immediate.is c.push-in-Immediate.ensures

pub returns-in-TaskPayload : goal.returns-in-TaskPayload
returns-in-TaskPayload c = OnOk-variant address_space_text c.push-in-TaskPayload.result c.args.text.now c.push-in-TaskPayload.new.self c.args.address_space.now _ c.in-TaskPayload.is c.push-in-TaskPayload.ensures

pub returns-in-RayPayload : goal.returns-in-RayPayload
returns-in-RayPayload c = OnOk-variant address_space_text c.push-in-RayPayload.result c.args.text.now c.push-in-RayPayload.new.self c.args.address_space.now _ c.in-RayPayload.is c.push-in-RayPayload.ensures

pub returns-in-IncomingRayPayload : goal.returns-in-IncomingRayPayload
returns-in-IncomingRayPayload c = OnOk-variant address_space_text c.push-in-IncomingRayPayload.result c.args.text.now c.push-in-IncomingRayPayload.new.self c.args.address_space.now _ c.in-IncomingRayPayload.is c.push-in-IncomingRayPayload.ensures
