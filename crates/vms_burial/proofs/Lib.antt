mod StillSettings
mod AbsentCpus
mod BuriedCpus
mod TakenAway
mod WholeBurials
