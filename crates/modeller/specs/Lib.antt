-- In reading order.
pub mod Euler
pub mod StepLimits
pub mod Replies
pub mod EulerLaws
