pub mod ExplicitPoints
