-- Made by tests/derive from the declarations of naga_kinds and naga_ir.
use Rattle.naga_text.proofs.PiecesLemmas.{OnOk-variant}
use Rattle.naga_text.specs.derived.Expression.{gather_mode_text}
use Rattle.naga_text.proofs.derived.expression.push_gather_mode.Goals as goal

pub returns-in-BroadcastFirst : goal.returns-in-BroadcastFirst
returns-in-BroadcastFirst c = OnOk-variant gather_mode_text c.push.result c.args.text.now c.push.new.self c.args.gather_mode.now _ c.in-BroadcastFirst.is c.push.ensures

pub returns-in-Broadcast : goal.returns-in-Broadcast
returns-in-Broadcast c = OnOk-variant gather_mode_text c.push-in-Broadcast.result c.args.text.now c.push-in-Broadcast.new.self c.args.gather_mode.now _ c.in-Broadcast.is c.push-in-Broadcast.ensures

pub returns-in-Shuffle : goal.returns-in-Shuffle
returns-in-Shuffle c = OnOk-variant gather_mode_text c.push-in-Shuffle.result c.args.text.now c.push-in-Shuffle.new.self c.args.gather_mode.now _ c.in-Shuffle.is c.push-in-Shuffle.ensures

pub returns-in-ShuffleDown : goal.returns-in-ShuffleDown
returns-in-ShuffleDown c = OnOk-variant gather_mode_text c.push-in-ShuffleDown.result c.args.text.now c.push-in-ShuffleDown.new.self c.args.gather_mode.now _ c.in-ShuffleDown.is c.push-in-ShuffleDown.ensures

pub returns-in-ShuffleUp : goal.returns-in-ShuffleUp
returns-in-ShuffleUp c = OnOk-variant gather_mode_text c.push-in-ShuffleUp.result c.args.text.now c.push-in-ShuffleUp.new.self c.args.gather_mode.now _ c.in-ShuffleUp.is c.push-in-ShuffleUp.ensures

pub returns-in-ShuffleXor : goal.returns-in-ShuffleXor
returns-in-ShuffleXor c = OnOk-variant gather_mode_text c.push-in-ShuffleXor.result c.args.text.now c.push-in-ShuffleXor.new.self c.args.gather_mode.now _ c.in-ShuffleXor.is c.push-in-ShuffleXor.ensures

pub returns-in-QuadBroadcast : goal.returns-in-QuadBroadcast
returns-in-QuadBroadcast c = OnOk-variant gather_mode_text c.push-in-QuadBroadcast.result c.args.text.now c.push-in-QuadBroadcast.new.self c.args.gather_mode.now _ c.in-QuadBroadcast.is c.push-in-QuadBroadcast.ensures

pub returns-in-QuadSwap : goal.returns-in-QuadSwap
returns-in-QuadSwap c = OnOk-variant gather_mode_text c.push_named_kind.result c.args.text.now c.push_named_kind.new.text c.args.gather_mode.now _ c.in-QuadSwap.is c.push_named_kind.ensures
