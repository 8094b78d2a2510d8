use Rattle.std.proofs.Common.{◌≡◌, length, drop}
use Rattle.cj_events.specs.Playable.{EachCanHappen}
use Rattle.cj_world.specs.Worlds.{first_world}
use Rattle.cj_world.specs.Running.{Orderly, world_of}
use Rattle.cj_world.proofs.Playing.{HaveHappened}
use Rattle.cj_world.proofs.plays.play_in.Given as goal

abbrev pub invariant-loop-event : goal.invariant-loop-event
invariant-loop-event l = record {
  happened : HaveHappened l.checked l.words l.event-items (first_world l.checked) l.event-index (world_of l.world);
  checked : l.world.cache.checked.now ≡ l.checked;
  words : l.world.words ≡ l.words;
  can : EachCanHappen l.checked.functions (length l.world.runs.items) (drop l.event-index l.event-items);
  orderly : Orderly l.world;
}
