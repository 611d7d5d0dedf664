-- What questions 1 and 2 have settled for the questions after them, the exits of what the orders write, and marks. Definitions only.
use Rattle.std.specs.Prelude.{◌≡◌, List, ◌++◌, ℕ, ◌+◌, ◌≤◌, ◌<◌, length, get_or, take, drop}
use Rattle.base.specs.First.{first}
use Rattle.base.specs.Lists.{table}
use Rattle.base.specs.Answers.{absent, Asked}
use Rattle.base.specs.declared.Refusal.TheVariants.{Order}
use Rattle.base.specs.Limits.{max_rows, max_entries}
use Rattle.lent.specs.Reading.{order_of}
use Rattle.matrix.specs.Input.{Input, ic}
use Rattle.matrix.specs.Questions.{bad_index, IsOrder}

-- ---- lengths, with room for the slots of scratch

pub record OrderLent (n : ℕ) (o : List ℕ) (from room : ℕ) : Type 0 where
  pub few : n ≤ max_rows
  pub added : from ≤ max_rows
  pub size : length o ≡ n
  pub slots : n ≤ room

pub record OrdersLent (n : ℕ) (r c : List ℕ) (room : ℕ) : Type 0 where
  pub few : n ≤ max_rows
  pub row-order : length r ≡ n
  pub column-order : length c ≡ n
  pub slots : n ≤ room

-- a structure call's
pub record Lent (n : ℕ) (s j r c : List ℕ) (room : ℕ) : Type 0 where
  pub orders : OrdersLent n r c room
  pub starts : length s ≡ n + 1
  pub columns : length j ≤ max_entries

-- a solve's
pub record SolveLent (i : Input) (room : ℕ) : Type 0 where
  pub lent : Lent i.n i.starts i.columns i.r i.c room
  pub values : length i.values ≡ length i.columns
  pub right : length i.b ≡ i.n

-- another right side's
pub record RightLent (n : ℕ) (r c : List ℕ) (right room : ℕ) : Type 0 where
  pub orders : OrdersLent n r c room
  pub size : right ≡ n

-- ---- where a row's starts are read, once 3, 4 and 5 are passed

pub record PlacesLent (n : ℕ) (s r : List ℕ) : Type 0 where
  pub few : n ≤ max_rows
  pub starts : length s ≡ n + 1
  pub size : length r ≡ n
  pub order : IsOrder r n

-- ---- marks

-- a slot for each number below n, and all are 0
pub record Unmarked (n : ℕ) (m : List ℕ) : Type 0 where
  pub slots : n ≤ length m
  pub fresh : (v : ℕ) → get_or m v 0 ≡ 0

-- 5 of one order, the index plus `from`
unfoldable pub ask_order : List ℕ → ℕ → ℕ → Asked
ask_order o n from = absent (first (bad_index o n) n) (λ k. Order (k + from))

-- ---- the inverse of an order, and the solution

pub record InverseLent (n : ℕ) (o : List ℕ) (room : ℕ) : Type 0 where
  pub few : n ≤ max_rows
  pub size : length o ≡ n
  pub slots : n ≤ room
  pub order : IsOrder o n

-- ic(0) to ic(n - 1) in the first n slots
unfoldable pub inverted : List ℕ → ℕ → List ℕ → List ℕ
inverted o n s = table (ic o n) n ++ drop n s

-- and in the n slots after the first n
unfoldable pub inverted_at : List ℕ → ℕ → List ℕ → List ℕ
inverted_at o n s = take n s ++ inverted o n (drop n s)

-- slots n to 2n hold the inverse of the column order
pub record Inverse (i : Input) (s : List ℕ) : Type 0 where
  pub place : (j : ℕ) → j < i.n → get_or (order_of i.n s) j 0 ≡ ic i.c i.n j

pub record SolutionLent (n : ℕ) (c : List ℕ) (z x : ℕ) : Type 0 where
  pub size : length c ≡ n
  pub from : n ≤ z
  pub to : x ≡ n
  pub order : IsOrder c n
