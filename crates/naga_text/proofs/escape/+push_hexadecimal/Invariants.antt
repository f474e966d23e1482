use Rattle.naga_text.proofs.escape.+push_hexadecimal.Given as goal

-- each call has one digit fewer
abbrev pub decreases-push_hexadecimal : goal.decreases-push_hexadecimal
decreases-push_hexadecimal l = l.number
