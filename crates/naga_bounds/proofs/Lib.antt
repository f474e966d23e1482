mod AreChangedToLemmas
mod EmittedLemmas
mod EnumeratedLemmas
mod ExampleModuleLemmas
mod GroupsLemmas
mod ModuleBoundsLemmas
mod ModuleOutcomesLemmas
mod OutcomesLemmas
mod PartsLemmas
mod RestrictsLemmas
pub mod AgreesLemmas
pub mod CalledOutcomesLemmas
pub mod CallsLemmas
pub mod ClampOfLemmas
pub mod ClampedIsWithinLemmas
pub mod ClampedValuesLemmas
pub mod ComesFromLemmas
pub mod DoesLemmas
pub mod FixedAccessLemmas
pub mod HasPassingLemmas
pub mod InBoundsLemmas
pub mod InsertedUsesLemmas
pub mod IsTypedLemmas
pub mod KeepsOutcomesLemmas
pub mod KeepsContentsLemmas
pub mod KeepsTypesLemmas
pub mod KeepsUsesLemmas
pub mod MadeLemmas
pub mod MadePrecedesLemmas
pub mod MisfitsLemmas
pub mod ModelLemmas
pub mod ModulesLemmas
pub mod PartsModelLemmas
mod PlannedLemmas
pub mod StartsLemmas
pub mod MovedLemmas
pub mod NewHandlesLemmas
pub mod RestrictedFitsLemmas
pub mod RestrictedFunctionLemmas
pub mod RestrictedIsTypedLemmas
pub mod RestrictedLemmas
pub mod RestrictedModuleIsTypedLemmas
pub mod SteadyLemmas
pub mod TracksLemmas
pub mod TypedAccessesLemmas
pub mod UnfitLemmas
