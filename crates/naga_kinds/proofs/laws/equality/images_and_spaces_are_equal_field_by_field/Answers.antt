use Rattle.naga_kinds.proofs.PartialEqLemmas.{image_classes}
use Rattle.naga_kinds.proofs.laws.equality.images_and_spaces_are_equal_field_by_field.Goals as goal

pub returns-clause-classes : goal.returns-clause-classes
returns-clause-classes c = image_classes c.args.classes.0 c.args.classes.1
