use Rattle.std.proofs.Common.{◌≡◌, length, take}
use Rattle.std.specs.Prelude.{All}
use Rattle.cj_world.specs.Worlds.{finished}
use Rattle.cj_world.specs.Running.{IsThrough, Orderly, world_of}
use Rattle.cj_world.proofs.world.World.finish.Given as goal

abbrev pub invariant-loop-place : goal.invariant-loop-place
invariant-loop-place l = record {
  made : world_of l.self ≡ finished l.fn.self.cache.checked.now l.place (world_of l.fn.self);
  checked : l.self.cache.checked.now ≡ l.fn.self.cache.checked.now;
  words : l.self.words ≡ l.fn.self.words;
  begun : length l.self.runs.items ≡ length l.fn.self.runs.items;
  through : All IsThrough (take l.place l.self.runs.items);
  orderly : Orderly l.self;
}
