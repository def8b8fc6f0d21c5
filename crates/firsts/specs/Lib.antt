-- The first of each rate, as offers come and go, and the tree that has a leaf for each.
-- lemmas: what a line that joins a list in order, or leaves it, does to the first of each rate
pub mod Joins
-- lemmas: the follower of a line that leaves tells who comes first in its rate
pub mod Follower
-- lemmas: what a post and a withdrawal do to the tree of the firsts: one of three things each, with the searches that it costs
pub mod Filed
-- lemmas: a list in order, walked from the first of each class: which of its elements pass a test
pub mod Runs
