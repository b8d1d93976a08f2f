mod AskedSteps
mod KeyLines
mod OpenSteps
