use Rattle.json_fault.proofs.StepsLemmas.{after-space, end-other, list-comma, list-end, list-other, object-comma, object-end, object-other}
use Rattle.json_fault.proofs.after.after.Goals as goal

pub returns-then-is_space : goal.returns-then-is_space
returns-then-is_space c = after-space _ _ c.requires (cc)

pub returns-then-byte-eq44 : goal.returns-then-byte-eq44
returns-then-byte-eq44 c = list-comma _ _ c.requires (cc) c.if-byte-eq44.true

pub returns-then-byte-eq93 : goal.returns-then-byte-eq93
returns-then-byte-eq93 c = list-end _ _ c.requires (cc) c.if-byte-eq93.true

pub returns-then-byte-eq44-2 : goal.returns-then-byte-eq44-2
returns-then-byte-eq44-2 c = object-comma _ _ c.requires (cc) c.if-byte-eq44-2.true

pub returns-then-byte-eq125 : goal.returns-then-byte-eq125
returns-then-byte-eq125 c = object-end _ _ c.requires (cc) c.if-byte-eq125.true

pub returns-in-None : goal.returns-in-None
returns-in-None c = end-other _ _ (cc) (cc)

pub returns-else-byte-eq93 : goal.returns-else-byte-eq93
returns-else-byte-eq93 c = list-other _ _ (cc) (cc) c.if-byte-eq44.false c.if-byte-eq93.false

pub returns-else-byte-eq125 : goal.returns-else-byte-eq125
returns-else-byte-eq125 c = object-other _ _ (cc) (cc) c.if-byte-eq44-2.false c.if-byte-eq125.false
