-- Theorems that rest on what a must-fail edit turns: an edit of a definition is refused at a fact only where they stand here.
-- ways through the code: a query, step by step: what the code's parts promise, and put together
pub mod Asking
