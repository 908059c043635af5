-- A linked host's tree and numbers keep the bounds that every host keeps. Assumes nothing.
use Rattle.std.proofs.Common.{arith}
use Rattle.std.proofs.lemmas.List.{length-map}
use Rattle.host.specs.Sound.{Sound}
use Rattle.linked_host.specs.Links.{view}
use Rattle.linked_host.specs.Arenas.{slots_of, entries}
use Rattle.linked_host.specs.Linked.{rig_of}
use Rattle.linked_host.specs.declared.linked.LinkedHost.{LinkedHost}
use Rattle.linked_host.specs.Rows.{sorted_from, ruled_from}
use Rattle.linked_host.specs.Written.{length_from}
use Rattle.linked_host.specs.Scans.{fit_views}
use Rattle.linked_host.specs.Lookups.{live_few}

pub sound_of : (h : LinkedHost) → Sound (rig_of h)
sound_of h =
    let rs = slots_of h.arena in
    let es = entries h.arena in
    record {
      sorted = sorted_from es (fit_views rs);
      rooted = h.grounded;
      proper = ruled_from es (fit_views rs);
      fits = omega (arith, length_from es (fit_views rs) h.distinct, live_few es, length-map rs view, h.arena.slots.ok.0);
      low = h.low;
      high = h.high;
      few = h.few;
    }
