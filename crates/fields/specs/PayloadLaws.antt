-- What a kind of value promises: the values read one by one, and the numbers written one by one.
use Rattle.std.specs.Prelude.{◌≡◌, List, map, ℕ, zero, suc}
use Rattle.std.specs.Float.{binary64}
use Rattle.std.specs.Float.Ieee.{of_bits}
use Rattle.std.proofs.Common.{refl, sym}
use Rattle.std.proofs.lemmas.List.{map-id, map-append}
use Rattle.base.specs.Lists.{table}
use Rattle.fields.specs.Payload.{field_at, fields_at, floats_at}

-- a mapped table is a table
pub map-table : {A B : Type 0} (g : A → B) (f : ℕ → A) (n : ℕ) → map g (table f n) ≡ table (λ k. g (f k)) n
unfolding table
map-table g f zero = refl
map-table g f (suc n) = rw (map-append, map-table g f n)

pub fields-each : (w : ℕ) (file : List ℕ) (at n : ℕ) → fields_at w file at n ≡ table (λ k. field_at w file at k) n
unfolding fields_at
fields-each w file at n = refl

pub floats-each : (file : List ℕ) (at n : ℕ) → floats_at file at n ≡ table (λ k. of_bits binary64 (field_at 8 file at k)) n
unfolding floats_at fields_at
floats-each file at n = map-table (of_bits binary64) (field_at 8 file at) n

pub numbers-each : (xs : List ℕ) → xs ≡ map (λ x. x) xs
numbers-each xs = sym (map-id xs)
