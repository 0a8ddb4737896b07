mod WideSums
mod MoreGroups
