use Rattle.std.proofs.Common.{length}
use Rattle.naga_opt.proofs.line.+print_parts.Given as goal

-- each call prints one part fewer
abbrev pub decreases-print_parts : goal.decreases-print_parts
decreases-print_parts g l = length l.parts.now
