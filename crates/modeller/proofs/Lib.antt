mod Needing
mod PlainCalls
mod Performing
mod Telling
mod StepLimits
