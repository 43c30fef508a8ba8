-- What modifier maps give more than once.
use Rattle.std.proofs.Common.{◌≡◌, ℕ, ◌^◌, ◌||◌, Bool, true, false, cond, Option, Some, None, bit_or, refl, sym, ap, ◌∙◌}
use Rattle.std.specs.Option.{option_map, option_or}
use Rattle.kx_virtual_mods.specs.Sets.{has}
use Rattle.kx_merge.specs.Offers.{merged_value}
use Rattle.kx_mods.specs.Mods.{mask}
use Rattle.kx_mods.specs.declared.mods.Mods.{Mods}
use Rattle.kx_tree.specs.declared.tree.Mode.{Mode}
use Rattle.kx_tree.specs.declared.tree.Mode.TheVariants.{Augment, Override}
use Rattle.kx_modmaps.specs.Maps.{assigned_cell, present}
use Rattle.kx_modmaps.specs.declared.record.Assigned.{Assigned}
use Rattle.kx_modmaps.specs.declared.record.Cell.{Cell}
use Rattle.kx_modmaps.specs.declared.record.Cell.TheVariants.{Present, Only}
use Rattle.kx_virtual_mods.proofs.Bits.{has_union}

either : (b c : Bool) (x : ℕ) → cond (b || c) (Some x) None ≡ option_or (cond b (Some x) None) (cond c (Some x) None)
either true c x = refl
either false true x = refl
either false false x = refl

other : (b c : Bool) (x : ℕ) → cond (b || c) (Some x) None ≡ option_or (cond c (Some x) None) (cond b (Some x) None)
other true true x = refl
other true false x = refl
other false true x = refl
other false false x = refl

first-only : (a b : Option Mods) → option_map mask (option_or a b) ≡ option_or (option_map mask a) (option_map mask b)
first-only (Some m) b = refl
first-only None b = refl

module _ (old new got : Assigned) (mode : Mode) (whole : mask got.present ≡ bit_or (mask old.present) (mask new.present)) where
  pub joined_weak : mode ≡ Augment → got.only ≡ option_or old.only new.only → (c : Cell) → assigned_cell got c ≡ merged_value mode (assigned_cell old c) (assigned_cell new c)
  joined_weak is only (Present r) =
      ap (λ m. present m r) whole ∙ ap (λ b. cond b (Some (2 ^ r)) None) (has_union (mask old.present) (mask new.present) r) ∙ either (has (mask old.present) r) (has (mask new.present) r) (2 ^ r)
      ∙ ap (λ m. merged_value m (present (mask old.present) r) (present (mask new.present) r)) (sym is)
  joined_weak is only Only = ap (option_map mask) only ∙ first-only old.only new.only ∙ ap (λ m. merged_value m (option_map mask old.only) (option_map mask new.only)) (sym is)

  pub joined_strong : mode ≡ Override → got.only ≡ option_or new.only old.only → (c : Cell) → assigned_cell got c ≡ merged_value mode (assigned_cell old c) (assigned_cell new c)
  joined_strong is only (Present r) =
      ap (λ m. present m r) whole ∙ ap (λ b. cond b (Some (2 ^ r)) None) (has_union (mask old.present) (mask new.present) r) ∙ other (has (mask old.present) r) (has (mask new.present) r) (2 ^ r)
      ∙ ap (λ m. merged_value m (present (mask old.present) r) (present (mask new.present) r)) (sym is)
  joined_strong is only Only = ap (option_map mask) only ∙ first-only new.only old.only ∙ ap (λ m. merged_value m (option_map mask old.only) (option_map mask new.only)) (sym is)
