-- Counts that fit the numbers in which they are told.
use Rattle.std.specs.Prelude.{◌<◌, ◌^◌, length}
use Rattle.kx_tables.specs.Content.{Content}

pub record CountsFit (c : Content) : Type 0 where
  pub types : length c.types < 2 ^ 16
  pub entries : length c.entries < 2 ^ 32
  pub keys : length c.keys < 2 ^ 16
  pub groups : length c.groups < 2 ^ 32
  pub cells : length c.cells < 2 ^ 32
  pub keysyms : length c.keysyms < 2 ^ 32
  pub indicators : length c.indicators < 2 ^ 16
  pub group_names : length c.group_names < 2 ^ 16
  pub names : length c.names < 2 ^ 32
