pub mod RuleNumbers
pub mod Laws
