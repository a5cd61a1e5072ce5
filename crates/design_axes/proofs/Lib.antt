pub mod ReadAxes
