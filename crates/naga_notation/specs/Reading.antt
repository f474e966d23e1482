-- Reading the notation byte by byte.
pub mod State
pub mod Unfinished
pub mod Reader
use Rattle.std.specs.Prelude.{ℕ, ◌==◌, List, [], ◌∷◌, Bool, true, false, Option, Some, None, codes, if◌then◌else◌}
use Rattle.std.specs.List.{zip}
use Rattle.naga_arena.specs.Span.{undefined}
use Rattle.naga_kinds.specs.declared.switch.SwitchValue.{SwitchValue}
use Rattle.naga_ir.specs.Tree.{Tree, empty, push, Node, nested, branch, switch, loop, Cases, no_cases}
use Rattle.naga_notation.specs.declared.sign.Simple.{Simple as SimpleSign}
use Rattle.naga_notation.specs.declared.sign.Simple.TheVariants.{Plain, Break, Continue, Return, Kill}
use Rattle.naga_notation.specs.declared.sign.Compound.{Compound}
use Rattle.naga_notation.specs.declared.sign.Compound.TheVariants.{If, Switch, Loop, BreakingLoop}
use Rattle.naga_notation.specs.declared.sign.Sign.{Sign}
use Rattle.naga_notation.specs.declared.sign.Sign.TheVariants.{Statement, Begin, Open, Close, OpenCases, CloseCases, DefaultCase, OpenCase, FallThrough, CloseCase}
use Rattle.naga_notation.specs.Reading.State as state
use Rattle.naga_notation.specs.Reading.State.{in_block, in_accept, in_reject, in_body, in_continuing, of_part, of_case, nothing, awaiting, switching, listing, defaulting, falling}
use Rattle.naga_notation.specs.Outline.{case_count, with_case, value_after, first_handle, break_if_of, Simple, passes, breaks, continues, returns, kills, simple_node}

-- the statement without blocks that a sign represents
abbrev pub simple_of : SimpleSign → Simple
simple_of Plain = passes
simple_of Break = breaks
simple_of Continue = continues
simple_of Return = returns
simple_of Kill = kills

-- the bytes of the notation, each with its sign
abbrev pub signs : List (ℕ × Sign)
signs =
    zip (codes "pbcrkislw{}()d[>]")
    (Statement Plain ∷ Statement Break ∷ Statement Continue ∷ Statement Return ∷ Statement Kill
    ∷ Begin If ∷ Begin Switch ∷ Begin Loop ∷ Begin BreakingLoop
    ∷ Open ∷ Close ∷ OpenCases ∷ CloseCases ∷ DefaultCase ∷ OpenCase ∷ FallThrough ∷ CloseCase ∷ [])

abbrev pub sign_among : List (ℕ × Sign) → ℕ → Option Sign
sign_among [] byte = None
sign_among (sign ∷ others) byte = if byte == sign.0 then Some sign.1 else sign_among others byte

-- the sign of a byte, or `None` if it is not a byte of the notation
abbrev pub sign_of : ℕ → Option Sign
sign_of byte = sign_among signs byte

-- a case whose body is open: the cases before it, and its value
abbrev pub OpenedCase : Type 0
OpenedCase = Cases × SwitchValue

abbrev pub Part : Type 0
Part = state.Part Tree (Option ℕ)

abbrev pub Place : Type 0
Place = state.Place Tree OpenedCase (Option ℕ)

abbrev pub Outer : Type 0
Outer = state.Outer Tree OpenedCase (Option ℕ)

abbrev pub Begun : Type 0
Begun = state.Begun Tree Cases OpenedCase (Option ℕ)

-- a state of reading that carries the trees that were read so far
abbrev pub Reached : Type 0
Reached = state.State Tree Cases OpenedCase (Option ℕ)

-- the state in which `begun` has begun after these statements
abbrev pub begun_at : List Outer → Tree → Begun → Reached
begun_at outers current begun = record { outers = outers; current = current; begun = begun }

-- the state in which nothing has begun after these statements
abbrev pub at_statement : List Outer → Tree → Reached
at_statement outers current = begun_at outers current nothing

-- the state after one more statement, which has no span
abbrev pub after_statement : List Outer → Tree → Node → Reached
after_statement outers current last = at_statement outers (push current last undefined)

-- the state before the first byte
abbrev pub start : Reached
start = at_statement [] empty

-- the state after a block has opened in the innermost one
abbrev pub opened : List Outer → Tree → Place → Reached
opened outers current place = at_statement (record { statements = current; place = place } ∷ outers) empty

-- what begins with this letter
abbrev pub begun_by : Compound → Begun
begun_by If = awaiting in_accept
begun_by Switch = switching
begun_by Loop = awaiting (in_body (break_if_of false))
begun_by BreakingLoop = awaiting (in_body (break_if_of true))

-- the state after a part of a statement: the statement continues or ends
abbrev pub after_part : List Outer → Tree → Part → Tree → Reached
after_part outers before in_block inner = after_statement outers before (nested inner)
after_part outers before in_accept inner = begun_at outers before (awaiting (in_reject inner))
after_part outers before (in_reject accept) inner = after_statement outers before (branch first_handle accept inner)
after_part outers before (in_body break_if) inner = begun_at outers before (awaiting (in_continuing inner break_if))
after_part outers before (in_continuing body break_if) inner = after_statement outers before (loop body inner break_if)

-- the state after a closing brace, which may not follow if the innermost block is the body of a case
abbrev pub closed_at : List Outer → Tree → Place → Tree → Option Reached
closed_at outers before (of_part part) inner = Some (after_part outers before part inner)
closed_at outers before (of_case case) inner = None

abbrev pub part_closed : List Outer → Tree → Option Reached
part_closed [] inner = None
part_closed (outer ∷ outers) inner = closed_at outers outer.statements outer.place inner

-- the state in the list of cases around the innermost block, or `None` if that block is not the body of a case
abbrev pub list_at : (OpenedCase → Begun) → List Outer → Tree → Place → Option Reached
list_at begun outers before (of_part part) = None
list_at begun outers before (of_case case) = Some (begun_at outers before (begun case))

abbrev pub in_list : (OpenedCase → Begun) → List Outer → Option Reached
in_list begun [] = None
in_list begun (outer ∷ outers) = list_at begun outers outer.statements outer.place

-- the state after the body of a case has ended with a `>`
abbrev pub case_ended : List Outer → Tree → Option Reached
case_ended outers body = in_list (λ case. falling case body) outers

-- the state after the body of a case has closed
abbrev pub case_closed : Bool → List Outer → Tree → Option Reached
case_closed falls_through outers body = in_list (λ case. listing (with_case case.0 case.1 body falls_through)) outers

-- The state after one more sign, by what has begun and the sign that comes. A sign that has no row may not follow.
abbrev pub next : List Outer → Tree → Begun → Sign → Option Reached
next outers current nothing (Statement what) = Some (after_statement outers current (simple_node (simple_of what)))
next outers current nothing (Begin what) = Some (begun_at outers current (begun_by what))
next outers current nothing Open = Some (opened outers current (of_part in_block))
next outers current nothing Close = part_closed outers current
next outers current nothing FallThrough = case_ended outers current
next outers current nothing CloseCase = case_closed false outers current
next outers current (awaiting part) Open = Some (opened outers current (of_part part))
next outers current switching OpenCases = Some (begun_at outers current (listing no_cases))
next outers current (listing cases) OpenCase = Some (opened outers current (of_case (cases, value_after cases false)))
next outers current (listing cases) DefaultCase = Some (begun_at outers current (defaulting cases))
next outers current (listing cases) CloseCases = Some (after_statement outers current (switch first_handle cases))
next outers current (defaulting cases) OpenCase = Some (opened outers current (of_case (cases, value_after cases true)))
next outers current (falling case body) CloseCase =
    Some (begun_at outers current (listing (with_case case.0 case.1 body true)))
next outers current begun sign = None

-- the state after one more sign, or `None` if there is no sign or it may not follow
abbrev pub after_sign : Reached → Option Sign → Option Reached
after_sign reached None = None
after_sign reached (Some sign) = next reached.outers reached.current reached.begun sign

-- the state after one more byte, or `None` if the byte may not follow
abbrev pub read_byte : Reached → ℕ → Option Reached
read_byte reached byte = after_sign reached (sign_of byte)

-- the state after these bytes, or `None` if one of them may not follow
abbrev pub read_from : Option Reached → List ℕ → Option Reached
read_from None text = None
read_from (Some reached) [] = Some reached
read_from (Some reached) (byte ∷ rest) = read_from (read_byte reached byte) rest

-- the state after a whole text
abbrev pub read : List ℕ → Option Reached
read text = read_from (Some start) text

-- the block, or `None` if something is unfinished
abbrev pub finished_after : List Outer → Tree → Begun → Option Tree
finished_after [] current nothing = Some current
finished_after outers current begun = None

abbrev pub finished : Reached → Option Tree
finished reached = finished_after reached.outers reached.current reached.begun

-- the number of cases so far in the list of cases that has begun
abbrev pub cases_begun : Begun → ℕ
cases_begun (listing cases) = case_count cases
cases_begun (defaulting cases) = case_count cases
cases_begun begun = 0
