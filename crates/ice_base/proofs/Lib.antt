mod Lists
mod Fronts
