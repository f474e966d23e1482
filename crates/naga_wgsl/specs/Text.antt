-- The text of a function body as a tree: names, expressions that are written out, and lines in nested scopes.
use Rattle.std.specs.Prelude.{Bool, List, [], ◌∷◌, Option}
use Rattle.naga_kinds.specs.declared.switch.SwitchValue.{SwitchValue}

mutual
  -- an expression of a text: a name, or an operator that is applied to expressions
  pub data Text (Name Shape : Type 0) : Type 0 where
    named : Name → Text Name Shape
    applied : Shape → Texts Name Shape → Text Name Shape

  -- expressions in order
  pub data Texts (Name Shape : Type 0) : Type 0 where
    no_text : Texts Name Shape
    more : Text Name Shape → Texts Name Shape → Texts Name Shape

mutual
  -- lines in order
  pub data Lines (Name Shape Action : Type 0) : Type 0 where
    no_line : Lines Name Shape Action
    line : (front : Lines Name Shape Action) (last : Line Name Shape Action) → Lines Name Shape Action

  -- one line: a name is bound to a value, or a statement acts on values and may bind a name to its result
  pub data Line (Name Shape Action : Type 0) : Type 0 where
    binds : Name → Text Name Shape → Line Name Shape Action
    acts : Action → Texts Name Shape → (result : Option Name) → Line Name Shape Action
    in_braces : Lines Name Shape Action → Line Name Shape Action
    branches : Text Name Shape → (accept reject : Lines Name Shape Action) → Line Name Shape Action
    switches : Text Name Shape → Arms Name Shape Action → Line Name Shape Action
    loops : (body continuing : Lines Name Shape Action) (break_if : Option (Text Name Shape)) → Line Name Shape Action
    breaks : Line Name Shape Action
    continues : Line Name Shape Action
    discards : Line Name Shape Action
    returns : Option (Text Name Shape) → Line Name Shape Action

  -- the cases of a switch
  pub data Arms (Name Shape Action : Type 0) : Type 0 where
    no_arm : Arms Name Shape Action
    arm : SwitchValue → Lines Name Shape Action → (falls_through : Bool) → Arms Name Shape Action → Arms Name Shape Action

-- the values of the cases
abbrev pub values_of_arms : {Name Shape Action : Type 0} → Arms Name Shape Action → List SwitchValue
values_of_arms no_arm = []
values_of_arms (arm value body falls_through others) = value ∷ values_of_arms others
