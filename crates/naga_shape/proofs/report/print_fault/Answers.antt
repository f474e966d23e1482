use Rattle.naga_shape.proofs.report.print_fault.Goals as goal

pub returns-in-UnexpectedArgument : goal.returns-in-UnexpectedArgument
returns-in-UnexpectedArgument g c = record { line = rw c.in-UnexpectedArgument.is c.writeln.ensures.bytes }

pub returns-in-Line-Shape-BadText : goal.returns-in-Line-Shape-BadText
returns-in-Line-Shape-BadText g c =
    let a = c.in-Line-Shape-BadText in
    let shape = rw a.is at a.field-0-is in
    record { line = rw (a.is, shape, rw (a.is, shape) at a.field-0-0-is) c.writeln-in-Line-Shape-BadText.ensures.bytes }

pub returns-in-Line-Shape-TooDeep : goal.returns-in-Line-Shape-TooDeep
returns-in-Line-Shape-TooDeep g c =
    let a = c.in-Line-Shape-TooDeep in
    let shape = rw a.is at a.field-0-is in
    record { line = rw (a.is, shape, rw (a.is, shape) at a.field-0-0-is) c.writeln-in-Line-Shape-TooDeep.ensures.bytes }

pub returns-in-Line-Shape-TooLong : goal.returns-in-Line-Shape-TooLong
returns-in-Line-Shape-TooLong g c =
    let a = c.in-Line-Shape-TooLong in
    let shape = rw a.is at a.field-0-is in
    record { line = rw (a.is, shape, rw (a.is, shape) at a.field-0-0-is) c.writeln-in-Line-Shape-TooLong.ensures.bytes }

pub returns-in-Line-Shape-Memory : goal.returns-in-Line-Shape-Memory
returns-in-Line-Shape-Memory g c =
    let a = c.in-Line-Shape-Memory in
    let shape = rw a.is at a.field-0-is in
    record { line = rw (a.is, shape, rw (a.is, shape) at a.field-0-0-is) c.writeln-in-Line-Shape-Memory.ensures.bytes }

pub returns-in-Line-NotUtf8 : goal.returns-in-Line-NotUtf8
returns-in-Line-NotUtf8 g c =
    let a = c.in-Line-NotUtf8 in
    record { line = rw (a.is, rw a.is at a.field-0-is) c.writeln-in-Line-NotUtf8.ensures.bytes }

pub returns-in-Line-Input : goal.returns-in-Line-Input
returns-in-Line-Input g c =
    let a = c.in-Line-Input in
    record { line = rw (a.is, rw a.is at a.field-0-is) c.writeln-in-Line-Input.ensures.bytes }

pub returns-in-Line-Output : goal.returns-in-Line-Output
returns-in-Line-Output g c =
    let a = c.in-Line-Output in
    record { line = rw (a.is, rw a.is at a.field-0-is) c.writeln-in-Line-Output.ensures.bytes }
