-- A table host's tree and numbers keep the bounds that every host keeps. Assumes nothing.
use Rattle.std.proofs.Common.{arith}
use Rattle.host.specs.Sound.{Sound}
use Rattle.table_host.specs.Tables.{rig_of}
use Rattle.table_host.specs.Records.{nodes}
use Rattle.table_host.specs.Kept.{count_of}
use Rattle.table_host.specs.PlacesLemmas.{proper_records}
use Rattle.table_host.specs.declared.table_host.TableHost.{TableHost}

pub sound_of : (h : TableHost) → Sound (rig_of h)
sound_of h = record {
  sorted = h.ordered;
  rooted = h.grounded;
  proper = proper_records (nodes h.table);
  fits = omega (arith, count_of h, h.fits);
  low = h.low;
  high = h.high;
  few = h.few;
}
