mod Told
mod SoFar
mod ReadSteps
mod WriteSteps
mod DeskFiles
mod Names
mod StockSteps
mod SureSteps
