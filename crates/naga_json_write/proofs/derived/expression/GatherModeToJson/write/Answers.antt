-- Made by tests/derive from the declarations of naga_kinds and naga_ir.
use Rattle.naga_json_write.proofs.derived.expression.GatherModeToJson.write.Goals as goal

pub returns-in-Broadcast-clause-tokens : goal.returns-in-Broadcast-clause-tokens
returns-in-Broadcast-clause-tokens c = rw c.in-Broadcast.is c.write_holder.ensures.tokens

pub returns-in-Shuffle-clause-tokens : goal.returns-in-Shuffle-clause-tokens
returns-in-Shuffle-clause-tokens c = rw c.in-Shuffle.is c.write_holder-in-Shuffle.ensures.tokens

pub returns-in-ShuffleDown-clause-tokens : goal.returns-in-ShuffleDown-clause-tokens
returns-in-ShuffleDown-clause-tokens c = rw c.in-ShuffleDown.is c.write_holder-in-ShuffleDown.ensures.tokens

pub returns-in-ShuffleUp-clause-tokens : goal.returns-in-ShuffleUp-clause-tokens
returns-in-ShuffleUp-clause-tokens c = rw c.in-ShuffleUp.is c.write_holder-in-ShuffleUp.ensures.tokens

pub returns-in-ShuffleXor-clause-tokens : goal.returns-in-ShuffleXor-clause-tokens
returns-in-ShuffleXor-clause-tokens c = rw c.in-ShuffleXor.is c.write_holder-in-ShuffleXor.ensures.tokens

pub returns-in-QuadBroadcast-clause-tokens : goal.returns-in-QuadBroadcast-clause-tokens
returns-in-QuadBroadcast-clause-tokens c = rw c.in-QuadBroadcast.is c.write_holder-in-QuadBroadcast.ensures.tokens

pub returns-in-QuadSwap-clause-tokens : goal.returns-in-QuadSwap-clause-tokens
returns-in-QuadSwap-clause-tokens c = rw c.in-QuadSwap.is c.write_holder-in-QuadSwap.ensures.tokens
