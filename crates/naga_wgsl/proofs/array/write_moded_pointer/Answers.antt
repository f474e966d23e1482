use Rattle.std.proofs.Common.{append_assoc}
use Rattle.naga_wgsl.proofs.array.write_moded_pointer.Goals as goal

pub returns : goal.returns
returns c = rw (c.in_ok-push_last.ensures, c.in_ok-push-2.ensures, c.in_ok-push.ensures) (simp append_assoc)
