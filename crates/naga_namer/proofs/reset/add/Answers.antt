use Rattle.naga_namer.specs.Namers.{naming}
use Rattle.naga_namer.proofs.AddsNamesLemmas.{adds-one}
use Rattle.naga_namer.proofs.reset.add.Goals as goal

pub returns : goal.returns
returns c =
    adds-one (naming c.args.namer.now) (naming c.call.new.self) c.args.entries.now.items c.push.new.self.items c.args.key c.args.label.now c.in_ok-name.name
    c.in_ok-name.ensures.named c.in_ok-name.ensures.reserved c.in_ok-push.ensures.items
