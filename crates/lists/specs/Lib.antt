-- Lists: what the toolchain's library lacks.
-- ways through the code: tests that compute: what a passed and a failed one says, several tests together, and a choice by a test
pub mod Bools
-- statement and lemmas: a test on every element of a list, and the elements that pass one, as functions that compute
pub mod Filter
-- statement and lemmas: the first of each class of a list
pub mod Firsts
-- statement and lemmas: decided tests, lengths of sublists, and relations of all pairs
pub mod Members
-- lemmas: members, the places where they stand, sublists, and the list turned round
pub mod Places
-- statement and lemmas: whether some element of a list passes a test
pub mod Tests
