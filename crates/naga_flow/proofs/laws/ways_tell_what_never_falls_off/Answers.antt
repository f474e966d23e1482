use Rattle.std.proofs.Common.{◌≡◌, ◌∙◌, true, false, sym, ap}
use Rattle.naga_flow.specs.Ways.{has_way, ways_of}
use Rattle.naga_flow.proofs.DivergesWaysLemmas.{diverges-ways}
use Rattle.naga_flow.proofs.WaysLemmas.{BlockRuns-has_way}
use Rattle.naga_flow.proofs.laws.ways_tell_what_never_falls_off.Goals as goal

pub returns-clause-never : goal.returns-clause-never
returns-clause-never c block h turns answers run d e =
    let no : false ≡ true = sym h ∙ (sym (ap (has_way (ways_of block)) e) ∙ BlockRuns-has_way d) in cc

pub returns-clause-diverging : goal.returns-clause-diverging
returns-clause-diverging c block h = diverges-ways block h
