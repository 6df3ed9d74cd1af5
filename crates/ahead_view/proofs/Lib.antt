mod Comparing
mod MayBe
mod Replacing
mod Standing
